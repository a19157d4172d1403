use Rattle.std.proofs.Common.{◌≡◌, ◌+◌, ◌≤◌, drop, map}
use Rattle.stab_rounds.specs.Rounds.{act_of, rounds_from, rounds_of}
use Rattle.stab_rounds.proofs.round.count_rounds.Given as goal

-- the rounds so far and those of the events to come are all of them
abbrev pub invariant-loop-event : goal.invariant-loop-event
invariant-loop-event l =
    (l.rounds + rounds_from l.awaited (map act_of (drop l.event-index l.events)) ≡ rounds_of l.events)
    × (l.rounds ≤ l.event-index)
