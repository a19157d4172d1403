use Rattle.std.proofs.Common.{◌≡◌, ◌++◌, drop}
use Rattle.stab_rounds.specs.TreePlayed.{round_from}
use Rattle.stab_rounds.proofs.play.round_of_all.Given as goal

-- the rounds so far and those to come are all rounds
abbrev pub invariant-nodes : goal.invariant-nodes
invariant-nodes l = l.events.items ++ round_from l.node (drop l.node l.tree.parents) ≡ round_from 0 l.tree.parents
