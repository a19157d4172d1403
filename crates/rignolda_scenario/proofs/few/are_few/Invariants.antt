use Rattle.std.proofs.Common.{◌≡◌, ◌≤◌, ◌+◌, drop, length}
use Rattle.rignolda_scenario.specs.Played.{changes_of, most_changes}
use Rattle.rignolda_scenario.proofs.few.are_few.Given as goal

-- the changes so far and those of the steps to come are all of them, and so far they are few
abbrev pub invariant-loop-step : goal.invariant-loop-step
invariant-loop-step l =
    (l.changes + length (changes_of l.job.tree.parents l.job.params (drop l.step-index l.steps))
    ≡ length (changes_of l.job.tree.parents l.job.params l.steps))
    × (l.changes ≤ most_changes)
