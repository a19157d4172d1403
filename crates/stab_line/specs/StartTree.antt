-- The tree law by what each link really had under way when the count began, where the tree law
-- adds up capacities: the sums are those of the link law of each start.
-- Source: this project's own.
use Rattle.std.specs.Prelude.{ℕ, ◌+◌, ◌<◌, List, length}
use Rattle.std.specs.Option.{option_map_or}
use Rattle.stab_tree.specs.NodeOpenings.{hold_at}
use Rattle.stab_treecore.specs.Network.{Network, setup_into}
use Rattle.stab_treecore.specs.NodeLaws.{path_garbage}
use Rattle.stab_treecore.specs.Paths.{path_sum}
use Rattle.stab_treecore.specs.TreeLaw.{TreeLaw}

-- how many frames the link into a node had under way at its start
abbrev pub frames_into : Network → ℕ → ℕ
frames_into net node = option_map_or (λ link. length link.start.frames) (setup_into net node) 0

-- how many of the first items can be missing on the link into a node
abbrev pub missing_into : Network → ℕ → ℕ
missing_into net node =
    option_map_or (λ link. length link.start.acks + 1 + length link.start.frames)
    (setup_into net node) 1

-- each node has at most as many strays as frames were under way on its path and openings may hold
abbrev pub TreeLawOfStarts : Network → (ℕ → List ℕ) → Type 0
TreeLawOfStarts net received =
    (node : ℕ) → node < length net.tree.parents
    → TreeLaw
    (path_sum net.tree.parents
    (λ child. frames_into net child + hold_at net.tree.parents net.openings.hold child) node)
    (path_sum net.tree.parents (missing_into net) node)
    (path_garbage net node) net.published (received node)
