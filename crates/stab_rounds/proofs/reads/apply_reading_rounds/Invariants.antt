use Rattle.std.proofs.Common.{◌≡◌, ◌-◌}
use Rattle.stab_treecore.specs.TreeReplay.{tree_replay}
use Rattle.stab_rounds.specs.TreePlayed.{play_reads, reading_round_from}
use Rattle.stab_rounds.proofs.reads.apply_reading_rounds.Given as goal

-- the rounds to come, from the state so far, are all rounds from the first
abbrev pub invariant-rounds : goal.invariant-rounds
invariant-rounds l =
    (l.round.items ≡ reading_round_from l.fn.capacity 0 l.tree.parents)
    × (tree_replay l.state (play_reads l.fn.capacity l.tree.parents (l.fn.rounds - l._done))
    ≡ tree_replay l.fn.state (play_reads l.fn.capacity l.tree.parents l.fn.rounds))
    × (l.state.parents ≡ l.fn.state.parents)
