-- After how many rounds of its path a node of a network has all that it will ever have, from the
-- start on: as many as its parent needs to hand on all that it can have. The root has it at once.
-- Source: this project's own.
use Rattle.std.specs.Prelude.{ℕ}
use Rattle.std.specs.Option.{option_map_or}
use Rattle.stab_rounds.specs.TreeReadingRounds.{reading_rounds_below}
use Rattle.stab_rounds.specs.TreeRounds.{rounds_below}
use Rattle.stab_tree.specs.Nodes.{parent_at}
use Rattle.stab_treecore.specs.Network.{Network}

-- where no capacity is more than this
abbrev pub arrival_rounds : Network → ℕ → ℕ → ℕ
arrival_rounds net capacity node =
    option_map_or (rounds_below net capacity) (parent_at net.tree.parents node) 0

abbrev pub arrival_reading_rounds : Network → ℕ → ℕ
arrival_reading_rounds net node =
    option_map_or (reading_rounds_below net) (parent_at net.tree.parents node) 0
