use Rattle.std.proofs.Common.{◌≡◌, ◌++◌, drop}
use Rattle.stab_rounds.specs.TreePlayed.{reading_round_from}
use Rattle.stab_rounds.proofs.reads.reading_round_of_all.Given as goal

-- the rounds so far and those to come are all rounds
abbrev pub invariant-nodes : goal.invariant-nodes
invariant-nodes l =
    l.events.items ++ reading_round_from l.fn.capacity l.node (drop l.node l.tree.parents) ≡ reading_round_from l.fn.capacity 0 l.tree.parents
