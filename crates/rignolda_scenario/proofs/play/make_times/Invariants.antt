use Rattle.std.proofs.Common.{◌≡◌, ◌≤◌, List}
use Rattle.stab_treecore.specs.declared.event.TreeEvent.{TreeEvent}
use Rattle.rignolda_scenario.specs.Played.{Makes, acts, repeated}
use Rattle.rignolda_scenario.proofs.play.make_times.Given as goal

-- the changes were made so many times
abbrev pub invariant-times : goal.invariant-times
invariant-times l =
    (l._done ≤ l.times) × (l.state.parents ≡ l.tree.parents)
    × ((events : List TreeEvent) → l.changes ≡ acts events → Makes l.fn.state (repeated l._done events) l.state)
