use Rattle.std.proofs.Common.{◌≡◌, ◌-◌}
use Rattle.stab_treecore.specs.Changes.{changes_replay}
use Rattle.rignolda_scenario.specs.Played.{repeated}
use Rattle.rignolda_draw.specs.ScenarioRows.{change_rows}
use Rattle.rignolda_draw.proofs.Taking.{Continues}
use Rattle.rignolda_draw.proofs.steps_walk.take_rounds.Given as goal

-- what takes the rows of the remaining rounds, from the state so far, has taken all rows; and these
-- rounds lead to where all do
abbrev pub invariant-rounds : goal.invariant-rounds
invariant-rounds g l =
    (l.state.parents ≡ l.tree.parents)
    × (changes_replay l.state (repeated (l.count - l.done) l.round) ≡ changes_replay l.initial.state (repeated l.count l.round))
    × Continues g.T.TakesRows.HasTaken l.to (change_rows l.state (repeated (l.count - l.done) l.round))
    l.initial.to (change_rows l.initial.state (repeated l.count l.round))
