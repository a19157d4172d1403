use Rattle.std.proofs.Common.{◌≡◌, ℕ, ◌+◌, map, max, ap, sym, ◌∙◌, arith}
use Rattle.std.specs.List.{range_with_len}
use Rattle.std.proofs.Math.Nat.{max-eq_left, max-eq_right}
use Rattle.stab_convergence.specs.Greatest.{greatest}
use Rattle.rignolda_verdict.specs.Costs.{capacity_to}
use Rattle.rignolda_verdict.proofs.Widest.{one_more}
use Rattle.rignolda_verdict.proofs.costs.greatest_below.Goals.{then-capacity-greatest, else-capacity-greatest}
use Rattle.rignolda_verdict.proofs.costs.greatest_below.Goals as goal

pub nodes-preserved : goal.nodes-preserved
nodes-preserved c =
    let f : ℕ → ℕ = capacity_to c.args.judge.now c.args.node in
    let count = c.nodes.place in
    let so_far : c.nodes.greatest ≡ greatest (map f (range_with_len 0 count)) = c.nodes.invariant in
    let here : c.capacity_to-capacity.result ≡ f count = c.capacity_to-capacity.ensures ∙ ap f c.new.ensures in
    let all : greatest (map f (range_with_len 0 (count + 1))) ≡ max c.nodes.greatest c.capacity_to-capacity.result =
    one_more f count ∙ (ap (λ n. max n (f count)) (sym so_far) ∙ ap (λ n. max c.nodes.greatest n) (sym here)) in
    elim c.if-capacity-greatest.branch [
      | then-capacity-greatest w ↦ w.greatest-is ∙ (sym (max-eq_right (omega (arith, w.if-capacity-greatest))) ∙ sym all)
      | else-capacity-greatest w ↦ w.greatest-is ∙ (sym (max-eq_left (omega (arith, w.if-capacity-greatest))) ∙ sym all)
    ]
