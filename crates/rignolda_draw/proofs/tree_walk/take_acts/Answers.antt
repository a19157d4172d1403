use Rattle.std.proofs.Common.{◌≡◌, ◌+◌, ◌∙◌, List, ap, drop, option_to_list, subst, sym}
use Rattle.stab_treecore.specs.TreeReplay.{tree_replay}
use Rattle.stab_treecore.specs.TreeStep.{tree_step}
use Rattle.stab_treecore.specs.WholeTree.{WholeTree}
use Rattle.stab_treecore.specs.declared.event.TreeEvent.{TreeEvent}
use Rattle.rignolda_draw.specs.Rows.{step_row, tree_rows_from}
use Rattle.rignolda_draw.proofs.Going.{next, one_further}
use Rattle.rignolda_draw.proofs.Taking.{Continues, continues}
use Rattle.rignolda_draw.proofs.tree_walk.take_acts.Goals as goal

pub loop-event-preserved : goal.loop-event-preserved
loop-event-preserved g c =
    let H = g.T.TakesRows.HasTaken in
    let t = c.args.state.now in
    let now = c.loop-event.state in
    let events = c.args.events.now in
    let i = c.loop-event.event-index in
    let e = c.event-item.result in
    let rest = drop (i + 1) events in
    let after = c.take_act.new.state in
    let goes = c.loop-event.invariant.1 in
    let is_next = next t now events i e c.loop-event-test.true c.event-item.is goes in
    let stepped : after ≡ tree_step now e = c.in_ok-take_act.ensures.steps in (
      ap (λ (s : WholeTree). s.parents) stepped ∙ c.loop-event.invariant.0,
      one_further t now events i e c.loop-event-test.true c.event-item.is goes after stepped c.in_ok-take_act.ensures.named,
      ap (λ (s : WholeTree). tree_replay s rest) stepped
          ∙ (ap (λ (es : List TreeEvent). tree_replay now es) (sym is_next) ∙ c.loop-event.invariant.2),
      subst (λ (s : WholeTree). Continues H c.take_act.new.to (tree_rows_from s rest) c.args.to.now (tree_rows_from t events)) (sym stepped)
          (continues H c.loop-event.to c.take_act.new.to c.args.to.now (option_to_list (step_row now e)) (tree_rows_from (tree_step now e) rest)
          (tree_rows_from t events)
          (subst (λ (es : List TreeEvent). Continues H c.loop-event.to (tree_rows_from now es) c.args.to.now (tree_rows_from t events)) is_next
          c.loop-event.invariant.3)
          c.in_ok-take_act.ensures.row),
    )
