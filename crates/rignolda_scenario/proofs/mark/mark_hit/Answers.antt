use Rattle.std.proofs.Common.{◌≡◌, ◌<◌, ◌∙◌, ℕ, Some, length, slice_get, slice_set, inl, inr, refl, ap, sym, subst, arith}
use Rattle.std.proofs.lemmas.Bool.{cases_lt}
use Rattle.std.proofs.lemmas.List.{length-set}
use Rattle.std.proofs.lemmas.Option.{same_Some, slice_get_read, slice_get_within}
use Rattle.stab_tree.specs.Nodes.{Nodes}
use Rattle.rignolda_scenario.specs.Marks.{IsMarkAfter}
use Rattle.rignolda_scenario.specs.declared.mark.Mark.{Mark}
use Rattle.rignolda_scenario.proofs.Marking.{got_elsewhere, got_there, hits_none}
use Rattle.rignolda_scenario.proofs.mark.mark_hit.Goals as goal

pub returns-then-not-is_fault-clause-marks : goal.returns-then-not-is_fault-clause-marks
returns-then-not-is_fault-clause-marks c node mark there =
    (mark, there, inr (hits_none c.args.job.now.tree.parents node c.args.step.now (sym c.is_fault.ensures ∙ c.if-not-is_fault.true), refl))

pub nodes-preserved : goal.nodes-preserved
nodes-preserved c =
    let xs = c.nodes.marks.items in
    let i = c.from.result in
    let place = c.nodes.place in
    let new : Mark = c.mark_again.new.mark in
    let at : i ≡ place = c.from.ensures in
    let within : i < length xs = omega (arith, at, c.nodes-test.true, c.len-place-end.ensures.value, ap (λ (t : Nodes). length t.parents) c.tree.ensures.tree, c.nodes.invariant.0, c.requires.each) in
    let Good : ℕ → Mark → Mark → Type 0 =
    λ node old mark. IsMarkAfter c.args.job.now.tree.parents c.args.state.now c.args.number c.args.step.now node old mark in (
      length-set xs i new ∙ c.nodes.invariant.0,
      λ node mark less there.
          elim (cases_lt node place) [
            | inl before ↦
                let other : node ≡ i → ⊥ = λ same. omega (arith, same, at, before) in
                c.nodes.invariant.1 node mark before (sym (got_elsewhere xs i node new other) ∙ there)
            | inr not_before ↦
                let here : node ≡ i = omega (arith, less, not_before, at) in
                let is : new ≡ mark =
                same_Some new mark (sym (got_there xs i new within) ∙ (ap (λ n. slice_get (slice_set xs i new) n) (sym here) ∙ there)) in
                let old : Mark = c.index_mut-mark.result.now in
                let was : slice_get xs i ≡ Some old = slice_get_read xs (length xs) i old refl within c.index_mut-mark.ensures.value in (
                  old,
                  ap (λ n. slice_get c.args.marks.now.items n) (here ∙ at)
                      ∙ (sym (c.nodes.invariant.2 place (omega arith)) ∙ (ap (λ n. slice_get xs n) (sym at) ∙ was)),
                  subst (λ n. Good n old mark) (sym (here ∙ at))
                      (subst (λ m. Good place old m) is (subst (λ n. Good n old new) c.new.ensures c.in_ok-mark_again.ensures)),
                )
          ],
      λ node after.
          let other : node ≡ i → ⊥ = λ same. omega (arith, same, at, after) in
          got_elsewhere xs i node new other ∙ c.nodes.invariant.2 node (omega (arith, after)),
    )

pub returns-clause-marks : goal.returns-clause-marks
returns-clause-marks c node mark there =
    let within = slice_get_within c.nodes.marks.items node mark there in
    c.nodes.invariant.1 node mark
    (omega (arith, within, c.nodes-test.false, c.len-place-end.ensures.value, ap (λ (t : Nodes). length t.parents) c.tree.ensures.tree, c.nodes.invariant.0, c.requires.each)) there
