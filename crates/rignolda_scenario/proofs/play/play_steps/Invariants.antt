use Rattle.std.proofs.Common.{◌≡◌, length, take}
use Rattle.stab_job.specs.JobValues.{network}
use Rattle.stab_treecore.specs.TreeReplay.{initial_tree}
use Rattle.rignolda_scenario.specs.Played.{Makes, changes_of}
use Rattle.rignolda_scenario.proofs.Marking.{MarkedBy}
use Rattle.rignolda_scenario.proofs.play.play_steps.Given as goal

-- the steps so far were made, and each node is marked by them
abbrev pub invariant-loop-step : goal.invariant-loop-step
invariant-loop-step l =
    Makes (initial_tree (network l.job)) (changes_of l.job.tree.parents l.job.params (take l.step-index l.steps)) l.end
    × (l.number ≡ l.step-index) × (length l.marks.items ≡ length l.job.tree.parents)
    × MarkedBy l.job l.steps l.step-index l.marks.items
