use Rattle.std.proofs.Common.{◌≡◌, ◌+◌, ◌∙◌, ◌∷◌, List, ap, drop, subst, sym}
use Rattle.std.proofs.lemmas.List.{drop_more}
use Rattle.stab_treecore.specs.Changes.{changes_replay}
use Rattle.stab_treecore.specs.WholeTree.{WholeTree}
use Rattle.rignolda_scenario.specs.Played.{changes_in, changes_of}
use Rattle.rignolda_scenario.specs.declared.step.Step.{Step}
use Rattle.rignolda_draw.specs.ScenarioRows.{change_rows}
use Rattle.rignolda_draw.specs.declared.row.Row.{Row}
use Rattle.rignolda_draw.proofs.Played.{rows_of_both}
use Rattle.rignolda_draw.proofs.Taking.{Continues, continues, still_continues}
use Rattle.rignolda_draw.proofs.steps_walk.take_steps.Goals as goal

pub loop-step-preserved : goal.loop-step-preserved
loop-step-preserved g c =
    let H = g.T.TakesRows.HasTaken in
    let parents = c.args.job.now.tree.parents in
    let params = c.args.job.now.params in
    let steps = c.args.steps.now in
    let now = c.loop-step.state in
    let i = c.loop-step.step-index in
    let step = c.step-item.result in
    let rest = changes_of parents params (drop (i + 1) steps) in
    let changes = changes_in parents params step in
    let all = change_rows c.args.state.now (changes_of parents params steps) in
    let begun = c.begin_step.new.self in
    let is_next : drop i steps ≡ step ∷ drop (i + 1) steps =
    drop_more steps i step c.loop-step-test.true ∙ ap (λ (s : Step). s ∷ drop (i + 1) steps) (sym c.step-item.is) in
    let stepped : c.take_step.new.state ≡ changes_replay now changes = c.in_ok-take_step.ensures.after in (
      c.in_ok-take_step.ensures.same_tree,
      subst (λ (t : WholeTree). Continues H c.take_step.new.to (change_rows t rest) c.args.to.now all) (sym stepped)
          (continues H begun c.take_step.new.to c.args.to.now (change_rows now changes) (change_rows (changes_replay now changes) rest) all
          (subst (λ (rows : List Row). Continues H begun rows c.args.to.now all)
          (ap (λ (left : List Step). change_rows now (changes_of parents params left)) is_next ∙ rows_of_both now changes rest)
          (still_continues H c.loop-step.to begun c.args.to.now (change_rows now (changes_of parents params (drop i steps))) all
          c.loop-step.invariant.1 c.begin_step.ensures))
          c.in_ok-take_step.ensures.rows),
    )
