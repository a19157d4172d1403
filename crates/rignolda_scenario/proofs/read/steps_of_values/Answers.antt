use Rattle.std.proofs.Common.{◌≡◌, suc, ◌+◌, ◌∙◌, ◌++◌, ◌∷◌, [], length, drop, ap, sym, subst, add-one, Ok, Err, arith}
use Rattle.std.proofs.lemmas.List.{length-append}
use Rattle.std.proofs.lemmas.Result.{err_from_is_err_and}
use Rattle.serde_json.specs.View.{items_view, view}
use Rattle.rignolda_scenario.specs.Scenarios.{numbered, steps_after}
use Rattle.rignolda_scenario.proofs.Stepwise.{behind, no_step_there, one_more_step}
use Rattle.rignolda_scenario.proofs.read.steps_of_values.Goals as goal

pub loop-value-preserved : goal.loop-value-preserved
loop-value-preserved c =
    let t = c.args.finder.now in
    let params = c.args.params.now in
    let vs = c.args.values.now in
    let i = c.loop-value.value-index in
    let before = c.loop-value.steps in
    let step = c.in_ok-step.step in
    let pushed : c.push.new.self ≡ before ++ step ∷ [] = c.in_ok-push.ensures in (
      omega (arith, ap length pushed, length-append before (step ∷ []), c.loop-value.invariant.0),
      subst (λ n. steps_after t params 0 (items_view vs) ≡ behind c.push.new.self (steps_after t params n (items_view (drop n vs)))) (sym (add-one i))
          (c.loop-value.invariant.1
          ∙ (one_more_step t params before vs i c.value-item.result step c.loop-value-test.true c.value-item.is
          (subst (λ n. numbered t params n (view c.value-item.result) ≡ Ok step)
          (let same : c.len.result + 1 ≡ suc i = omega (arith, c.len.ensures, c.loop-value.invariant.0) in same) c.in_ok-step.ensures)
          ∙ ap (λ ss. behind ss (steps_after t params (suc i) (items_view (drop (suc i) vs)))) (sym pushed))),
    )

pub returns-in_err-step : goal.returns-in_err-step
returns-in_err-step c =
    let t = c.args.finder.now in
    let params = c.args.params.now in
    let vs = c.args.values.now in
    let i = c.loop-value.value-index in
    let its_fault = c.in_err-step.field-0.0 in
    let p = err_from_is_err_and c.from_residual.result c.from_residual.ensures.1 in
    rw (p.1, p.2)
    (λ whole. c.loop-value.invariant.1
    ∙ no_step_there t params c.loop-value.steps vs i c.value-item.result its_fault c.loop-value-test.true c.value-item.is
    (subst (λ n. numbered t params n (view c.value-item.result) ≡ Err its_fault)
    (let same : c.len.result + 1 ≡ suc i = omega (arith, c.len.ensures, c.loop-value.invariant.0) in same) (c.in_err-step.ensures whole)))
