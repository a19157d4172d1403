use Rattle.std.proofs.Common.{◌≡◌, ◌∙◌, ℕ, [], ◌∷◌, length, slice_get, ap, sym, subst, arith}
use Rattle.std.proofs.lemmas.List.{length-append}
use Rattle.rignolda_scenario.specs.Marks.{IsMarkOf}
use Rattle.rignolda_scenario.specs.declared.mark.Mark.{Mark}
use Rattle.rignolda_scenario.proofs.Marking.{got_pushed}
use Rattle.rignolda_scenario.proofs.mark.first_marks.Goals as goal

pub nodes-preserved : goal.nodes-preserved
nodes-preserved c =
    let xs = c.nodes.marks.items in
    let new : Mark = c.in_ok-mark.mark in
    let s = c.args.state.now in
    let Good : ℕ → Mark → Type 0 = λ node mark. (mark.step ≡ 0) × IsMarkOf s node mark in
    let pushed = c.in_ok-push.ensures.items in
    let here : c.new.result ≡ length xs = c.new.ensures ∙ sym c.nodes.invariant.0 in (
      ap length pushed ∙ (length-append xs (new ∷ []) ∙ omega (arith, c.nodes.invariant.0)),
      λ node mark there.
          got_pushed Good xs new c.nodes.invariant.1 (c.in_ok-mark.ensures.step, subst (λ n. IsMarkOf s n new) here c.in_ok-mark.ensures.mark) node mark
          (ap (λ ys. slice_get ys node) (sym pushed) ∙ there),
    )
