use Rattle.std.proofs.Common.{◌≡◌, ◌+◌, ◌-◌, ◌∙◌, suc, refl, sym, subst, add-one, arith}
use Rattle.std.proofs.lemmas.Result.{err_from_is_err_and}
use Rattle.stab_treecore.specs.ChangeRefusals.{IsReasonAt, ReachesChange}
use Rattle.rignolda_scenario.specs.Played.{Makes, acts, repeated}
use Rattle.rignolda_scenario.proofs.Playing.{make_on, reach_on, repeated_more, repeated_parts, tree_stays}
use Rattle.rignolda_scenario.proofs.Refused.{reaches_more}
use Rattle.rignolda_scenario.proofs.play.make_times.Goals as goal

pub times-init : goal.times-init
times-init c = (omega arith, c.requires, λ events is. (refl, tt))

pub times-preserved : goal.times-preserved
times-preserved c =
    let old = c.args.state.now in
    let now = c.times.state in
    let new = c.make_changes.new.state in
    let made : Makes now c.args.changes.now new = (c.in_ok-make_changes.ensures.replay, c.in_ok-make_changes.ensures.made) in (
      omega (arith, c.times-test.true),
      tree_stays now new c.args.changes.now made ∙ c.times.invariant.1,
      λ events is.
          subst (λ n. Makes old (repeated n events) new) (sym (add-one c.times._done))
          (subst (λ cs. Makes old cs new) (repeated_more c.times._done events)
          (make_on old now new (repeated c.times._done events) (acts events) (c.times.invariant.2 events is)
          (subst (λ cs. Makes now cs new) is made))),
    )

pub returns-clause-made : goal.returns-clause-made
returns-clause-made c =
    let all : c.times._done ≡ c.args.times = omega (arith, c.times.invariant.0, c.times-test.false) in
    λ events is.
    subst (λ n. Makes c.args.state.now (repeated n events) c.times.state) all (c.times.invariant.2 events is)

pub returns-in_err-make_changes-clause-refused : goal.returns-in_err-make_changes-clause-refused
returns-in_err-make_changes-clause-refused c =
    let p = err_from_is_err_and c.from_residual.result c.from_residual.ensures.1 in
    let P = IsReasonAt c.in_err-make_changes.field-0.0 in
    let old = c.args.state.now in
    let few = suc c.times._done in
    let left = c.args.times - few in
    let all : few + left ≡ c.args.times = omega (arith, c.times-test.true) in
    rw (p.1, p.2) (λ events is.
    subst (λ n. ReachesChange P old (repeated n events)) all
    (subst (λ cs. ReachesChange P old cs) (sym (repeated_parts few left events))
    (reaches_more P old (repeated few events) (repeated left events)
    (subst (λ cs. ReachesChange P old cs) (repeated_more c.times._done events)
    (reach_on P old c.times.state (repeated c.times._done events) (acts events) (c.times.invariant.2 events is)
    (subst (λ cs. ReachesChange P c.times.state cs) is c.in_err-make_changes.ensures.refused))))))
