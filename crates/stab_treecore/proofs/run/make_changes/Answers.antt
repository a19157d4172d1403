use Rattle.std.proofs.Common.{[], ◌∷◌, ◌∙◌, ap, refl, subst, arith}
use Rattle.std.proofs.lemmas.List.{take_all}
use Rattle.std.proofs.lemmas.Result.{err_from_is_err_and}
use Rattle.stab_treecore.specs.WholeTree.{WholeTree}
use Rattle.stab_treecore.specs.Changes.{changes_replay}
use Rattle.stab_treecore.specs.ChangeRefusals.{AllCanBeMade, IsReasonAt}
use Rattle.stab_treecore.proofs.Running.{one_more, parents_stay, reached}
use Rattle.stab_treecore.proofs.run.make_changes.Goals as goal

pub loop-change-init : goal.loop-change-init
loop-change-init c = (c.requires, record { replayed = refl; able = tt })

pub loop-change-preserved : goal.loop-change-preserved
loop-change-preserved c = (
  ap (λ (t : WholeTree). t.parents) c.in_ok-make.ensures.made
      ∙ (parents_stay c.loop-change.state (c.change-item.result ∷ []) ∙ c.loop-change.invariant.0),
  one_more c.args.state.now c.args.changes.now c.loop-change.change-index c.change-item.result c.loop-change.state c.make.new.state
      c.loop-change-test.true c.change-item.is c.loop-change.invariant.1 c.in_ok-make.ensures.can c.in_ok-make.ensures.made,
)

pub returns-clause-replay : goal.returns-clause-replay
returns-clause-replay c =
    c.loop-change.invariant.1.replayed
    ∙ ap (λ es. changes_replay c.args.state.now es) (take_all c.loop-change.change-index c.args.changes.now (omega arith))

pub returns-clause-made : goal.returns-clause-made
returns-clause-made c =
    subst (λ es. AllCanBeMade c.args.state.now es) (take_all c.loop-change.change-index c.args.changes.now (omega arith))
    c.loop-change.invariant.1.able

pub returns-in_err-make-clause-refused : goal.returns-in_err-make-clause-refused
returns-in_err-make-clause-refused c =
    let p = err_from_is_err_and c.from_residual.result c.from_residual.ensures.1 in
    rw (p.1, p.2)
    (reached (IsReasonAt c.in_err-make.field-0.0) c.args.state.now c.args.changes.now c.loop-change.change-index c.change-item.result
    c.loop-change-test.true c.change-item.is c.loop-change.invariant.1.able
    (subst (λ t. IsReasonAt c.in_err-make.field-0.0 t c.change-item.result) c.loop-change.invariant.1.replayed c.in_err-make.ensures.refused))
