use Rattle.std.proofs.Common.{◌≡◌, ◌++◌, drop}
use Rattle.rignolda_scenario.specs.Played.{acts}
use Rattle.rignolda_scenario.proofs.changes.push_acts.Given as goal

-- the changes so far and those to come are all of them
abbrev pub invariant-loop-event : goal.invariant-loop-event
invariant-loop-event l =
    l.changes.items ++ acts (drop l.event-index l.events) ≡ l.fn.changes.items ++ acts l.events
