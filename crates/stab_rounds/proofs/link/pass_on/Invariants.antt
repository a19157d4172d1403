use Rattle.std.proofs.Common.{◌≡◌, ◌-◌}
use Rattle.stab_core.specs.Replay.{replay}
use Rattle.stab_rounds.specs.Played.{rounds_with}
use Rattle.stab_rounds.proofs.link.pass_on.Given as goal

-- the replay of the rounds to come, from the state so far, is that of all of them
abbrev pub invariant-rounds : goal.invariant-rounds
invariant-rounds l =
    (l.link.params ≡ l.fn.link.params)
    × (replay l.fn.link.params l.link.state (rounds_with l.fn.item (l.rounds - l._done))
    ≡ replay l.fn.link.params l.fn.link.state (rounds_with l.fn.item l.rounds))
