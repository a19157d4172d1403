use Rattle.std.proofs.Common.{◌≡◌, drop}
use Rattle.stab_treecore.specs.TreeReplay.{tree_replay}
use Rattle.stab_rounds.proofs.play.apply_all.Given as goal

-- the replay of the events to come, from the state so far, is that of all events
abbrev pub invariant-loop-event : goal.invariant-loop-event
invariant-loop-event l =
    (tree_replay l.state (drop l.event-index l.events) ≡ tree_replay l.fn.state l.events)
    × (l.state.parents ≡ l.fn.state.parents)
