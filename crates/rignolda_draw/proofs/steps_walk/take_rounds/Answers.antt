use Rattle.std.proofs.Common.{◌≡◌, ◌+◌, ◌-◌, ◌∙◌, suc, List, ap, arith, subst, sym}
use Rattle.stab_treecore.specs.Changes.{changes_replay}
use Rattle.stab_treecore.specs.TreeReplay.{tree_replay}
use Rattle.stab_treecore.specs.WholeTree.{WholeTree}
use Rattle.rignolda_scenario.specs.Played.{repeated}
use Rattle.rignolda_draw.specs.Rows.{tree_rows_from}
use Rattle.rignolda_draw.specs.ScenarioRows.{change_rows}
use Rattle.rignolda_draw.specs.declared.row.Row.{Row}
use Rattle.rignolda_draw.proofs.Played.{acts_first, rows_of_acts_first}
use Rattle.rignolda_draw.proofs.Taking.{Continues, continues, still_continues}
use Rattle.rignolda_draw.proofs.steps_walk.take_rounds.Goals as goal

pub rounds-preserved : goal.rounds-preserved
rounds-preserved g c =
    let H = g.T.TakesRows.HasTaken in
    let now = c.rounds.state in
    let round = c.args.round.now in
    let begun = c.round.new.self in
    let all = change_rows c.args.state.now (repeated c.args.count round) in
    let rest = repeated (c.args.count - (c.rounds.done + 1)) round in
    let after = c.take_acts.new.state in
    let counted : c.args.count - c.rounds.done ≡ suc (c.args.count - (c.rounds.done + 1)) = omega (arith, c.rounds-test.true) in
    let one_more : repeated (c.args.count - c.rounds.done) round ≡ repeated (suc (c.args.count - (c.rounds.done + 1))) round =
    ap (λ count. repeated count round) counted in
    let stepped : after ≡ tree_replay now round = c.in_ok-take_acts.ensures.after in (
      c.in_ok-take_acts.ensures.same_tree,
      ap (λ (t : WholeTree). changes_replay t rest) stepped
          ∙ (sym (acts_first now round rest) ∙ (ap (λ changes. changes_replay now changes) (sym one_more) ∙ c.rounds.invariant.1)),
      subst (λ (t : WholeTree). Continues H c.take_acts.new.to (change_rows t rest) c.args.to.now all) (sym stepped)
          (continues H begun c.take_acts.new.to c.args.to.now (tree_rows_from now round) (change_rows (tree_replay now round) rest) all
          (subst (λ (rows : List Row). Continues H begun rows c.args.to.now all)
          (ap (λ changes. change_rows now changes) one_more ∙ rows_of_acts_first now round rest)
          (still_continues H c.rounds.to begun c.args.to.now (change_rows now (repeated (c.args.count - c.rounds.done) round)) all
          c.rounds.invariant.2 c.in_ok-round.ensures))
          c.in_ok-take_acts.ensures.rows),
    )
