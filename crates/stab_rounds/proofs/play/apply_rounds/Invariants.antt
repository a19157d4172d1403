use Rattle.std.proofs.Common.{◌≡◌, ◌-◌}
use Rattle.stab_treecore.specs.TreeReplay.{tree_replay}
use Rattle.stab_rounds.specs.TreePlayed.{play, round_from}
use Rattle.stab_rounds.proofs.play.apply_rounds.Given as goal

-- the rounds to come, from the state so far, are all rounds from the first
abbrev pub invariant-rounds : goal.invariant-rounds
invariant-rounds l =
    (l.round.items ≡ round_from 0 l.tree.parents)
    × (tree_replay l.state (play l.tree.parents (l.fn.rounds - l._done)) ≡ tree_replay l.fn.state (play l.tree.parents l.fn.rounds))
    × (l.state.parents ≡ l.fn.state.parents)
