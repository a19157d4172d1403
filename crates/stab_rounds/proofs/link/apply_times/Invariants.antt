use Rattle.std.proofs.Common.{◌≡◌, ◌-◌, replicate}
use Rattle.stab_core.specs.Replay.{replay}
use Rattle.stab_rounds.proofs.link.apply_times.Given as goal

-- the replay of the events to come, from the state so far, is that of all of them
abbrev pub invariant-times : goal.invariant-times
invariant-times l =
    (l.link.params ≡ l.fn.link.params)
    × (replay l.fn.link.params l.link.state (replicate (l.fn.times - l._done) l.fn.event)
    ≡ replay l.fn.link.params l.fn.link.state (replicate l.fn.times l.fn.event))
