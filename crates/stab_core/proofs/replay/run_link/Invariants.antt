use Rattle.std.proofs.Common.{◌≡◌, drop}
use Rattle.stab_core.specs.Replay.{initial, replay}
use Rattle.stab_core.proofs.replay.run_link.Given as goal

-- the replay of the remaining events, from the state so far, is that of all the events
abbrev pub invariant-loop-event : goal.invariant-loop-event
invariant-loop-event l =
    (l.link.params ≡ l.fn.params)
    × (replay l.fn.params l.link.state (drop l.event-index l.events) ≡ replay l.fn.params (initial l.start) l.events)
