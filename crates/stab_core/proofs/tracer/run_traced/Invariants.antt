use Rattle.std.proofs.Common.{◌≡◌, drop}
use Rattle.stab_core.specs.Trace.{traced_initial, traced_replay}
use Rattle.stab_core.proofs.tracer.run_traced.Given as goal

-- the replay of the remaining events, from the state so far, is that of all the events
abbrev pub invariant-loop-event : goal.invariant-loop-event
invariant-loop-event l =
    (l.tracer.params ≡ l.fn.params)
    × (traced_replay l.fn.params l.tracer.traced (drop l.event-index l.events)
    ≡ traced_replay l.fn.params (traced_initial l.start) l.events)
