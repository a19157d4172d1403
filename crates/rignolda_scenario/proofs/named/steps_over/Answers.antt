use Rattle.std.proofs.Common.{rules, ◌≡◌, List, [], ◌∷◌, ◌++◌, length, map, refl, sym, subst, ◌∙◌, arith}
use Rattle.std.specs.Vec.Iter.{into_iter_items}
use Rattle.rignolda_scenario.specs.NamedSteps.{AreStepsOf, named_in}
use Rattle.rignolda_scenario.proofs.Tabled.{FoundBefore, all_found, found_one}
use Rattle.rignolda_scenario.proofs.named.steps_over.Goals as goal

-- a list without entries
empty : {A : Type 0} (xs : List A) → length xs ≡ 0 → xs ≡ []
empty [] none = refl
empty (x ∷ xs) none = absurd (omega (arith, none))

pub each-init : goal.each-init
each-init c =
    let t = c.args.tree.now in
    let params = c.args.params.now in
    let all = c.into_iter-step-iterator.ensures.into_iter_gives in (
      λ names are rest found. rw c.in_ok-its_steps.ensures (subst (λ steps. AreStepsOf t params (map (named_in names) steps) rest) all.0 found),
      search rules,
    )

pub each-preserved : goal.each-preserved
each-preserved c =
    let t = c.args.tree.now in
    let params = c.args.params.now in
    let step = c.in-Some.step in
    let its_step = c.in-Some-step_over.its_step in
    let rest = into_iter_items c.next.new.self in
    let left : into_iter_items c.each.step-iterator ≡ step ∷ rest = search rules in
    let pushed : c.push.new.self ≡ c.each.its_steps ++ its_step ∷ [] = c.in_ok-push.ensures in
    let is = c.in-Some-step_over.ensures in (
      λ names are.
          let all = map (named_in names) c.args.steps.items in
          let before : FoundBefore t params all c.each.its_steps (named_in names step ∷ map (named_in names) rest) =
          subst (λ steps. FoundBefore t params all c.each.its_steps (map (named_in names) steps)) left (c.each.invariant.0 names are) in
          rw pushed (found_one t params all c.each.its_steps (named_in names step) (map (named_in names) rest) its_step before (is names are)),
      search rules,
    )

pub returns : goal.returns
returns c =
    let t = c.args.tree.now in
    let params = c.args.params.now in
    let none : into_iter_items c.each.step-iterator ≡ [] = empty (into_iter_items c.each.step-iterator) (sym c.each.invariant.1 ∙ c.in-None.ensures.steps.0) in
    λ names are.
    let all = map (named_in names) c.args.steps.items in
    all_found t params all c.each.its_steps
    (subst (λ steps. FoundBefore t params all c.each.its_steps (map (named_in names) steps)) none (c.each.invariant.0 names are))
