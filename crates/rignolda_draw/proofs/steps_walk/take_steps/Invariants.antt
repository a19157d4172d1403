use Rattle.std.proofs.Common.{◌≡◌, drop}
use Rattle.rignolda_scenario.specs.Played.{changes_of}
use Rattle.rignolda_draw.specs.ScenarioRows.{change_rows}
use Rattle.rignolda_draw.proofs.Taking.{Continues}
use Rattle.rignolda_draw.proofs.steps_walk.take_steps.Given as goal

-- what takes the rows of the remaining steps, from the state so far, has taken all rows
abbrev pub invariant-loop-step : goal.invariant-loop-step
invariant-loop-step g l =
    (l.state.parents ≡ l.job.tree.parents)
    × Continues g.T.TakesRows.HasTaken l.to
    (change_rows l.state (changes_of l.job.tree.parents l.job.params (drop l.step-index l.steps)))
    l.initial.to (change_rows l.initial.state (changes_of l.job.tree.parents l.job.params l.steps))
