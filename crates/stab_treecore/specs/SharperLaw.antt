-- The sharper tree law: how many of the first published items may be missing at a node depends on
-- how many strays it has received. Each link adds `c + 1`, and each stray in the node's list one
-- more: who has seen no stray misses less. And whatever strays there were, the bound is smaller
-- than the sum of `2c + 1`: each link adds `c + 1` but one, which adds `2c + 1`. Example: Two links
-- of capacity 1, as in the example two_links_under_one_schedule. Node b received the stray 98, so
-- of the items before its last one only the first 2 + 2 + 1 = 5 can be missing: 10 to 14 are. Its
-- other bound is (1 + 1) + (2 * 1 + 1) = 5 too, and the sum of 2c + 1 is 6. With links of capacity
-- 64 and 64 of them the other bound is 63 * 65 + 129 = 4224, where that sum is 8256. Source: this
-- project's own.
use Rattle.std.specs.Prelude.{ℕ, zero, suc, ◌+◌, ◌*◌, ◌<◌, List, length}
use Rattle.std.specs.Prelude.{Option, max}
use Rattle.std.specs.Option.{option_map_or}
use Rattle.stab_core.specs.LinkLaw.{NoneMissingFrom}
use Rattle.stab_tree.specs.Nodes.{parent_at}
use Rattle.stab_tree.specs.Steps.{depth_of}
use Rattle.stab_treecore.specs.Network.{Network}
use Rattle.stab_treecore.specs.NodeLaws.{capacity_into, most_strays}
use Rattle.stab_treecore.specs.NodeLaws.{path_garbage}
use Rattle.stab_treecore.specs.Paths.{sum_above, path_sum}
use Rattle.stab_treecore.specs.TreeLaw.{HalfTreeLawAt, NoneMissingBefore}

-- the half tree law, and before the last of its places none is missing but among the first ones:
-- the first `without_strays` and one for each stray, and at any rate the first `most_missing`
abbrev pub SharperTreeLaw : ℕ → ℕ → ℕ → List ℕ → List ℕ → List ℕ → Type 0
SharperTreeLaw most_strays without_strays most_missing garbage published received =
    (places : List ℕ) × (half : HalfTreeLawAt most_strays garbage published received places)
    × NoneMissingBefore (without_strays + length half.strays) places
    × NoneMissingBefore most_missing places

-- the sharper complete law: the half tree law, and no published item is missing but among as many
-- of the first ones
abbrev pub SharperCompleteLaw : ℕ → ℕ → ℕ → List ℕ → List ℕ → List ℕ → Type 0
SharperCompleteLaw most_strays without_strays most_missing garbage published received =
    (places : List ℕ) × (half : HalfTreeLawAt most_strays garbage published received places)
    × NoneMissingFrom (without_strays + length half.strays) (length published) places
    × NoneMissingFrom most_missing (length published) places

-- how many may be missing at a node that has received no stray: c + 1 for each link on its path
abbrev pub missing_without_strays : Network → ℕ → ℕ
missing_without_strays net node =
    path_sum net.tree.parents (λ child. capacity_into net child + 1) node

-- the most that one of this many links may add to what the links above it add, from a node upwards
abbrev pub peak_above : List (Option ℕ) → (ℕ → ℕ) → ℕ → ℕ → ℕ
peak_above parents capacity zero node = 0
peak_above parents capacity (suc count) node =
    max (option_map_or (peak_above parents capacity count) (parent_at parents node) 0)
    (option_map_or (sum_above parents (λ w. capacity w + 1) count) (parent_at parents node) 0
    + (2 * capacity node + 1))

-- the most that may be missing at a node: 2c + 1 for one link on its path, and c + 1 for each above
-- it, where that is most
abbrev pub fewest_missing : Network → ℕ → ℕ
fewest_missing net node =
    peak_above net.tree.parents (capacity_into net) (depth_of net.tree.parents node) node

-- the sharper tree law at one node, and at each node
abbrev pub SharperTreeLawAtNode : Network → (ℕ → List ℕ) → ℕ → Type 0
SharperTreeLawAtNode net received node =
    SharperTreeLaw (most_strays net node) (missing_without_strays net node)
    (fewest_missing net node) (path_garbage net node) net.published (received node)

abbrev pub SharperTreeLawAtNodes : Network → (ℕ → List ℕ) → Type 0
SharperTreeLawAtNodes net received =
    (node : ℕ) → node < length net.tree.parents → SharperTreeLawAtNode net received node
