-- What a fault costs in a tree that has come to rest: each link of it has acknowledged `2c + 2`
-- items and handed on all. A strike at the link into a node costs the node at most `c` strays and
-- some of the next `2c + 1` items, and what is beneath it no more. A restart touches the links to
-- the children too, so a node beneath pays for one of these as well, and may receive the new list
-- as strays. Example: In the chain r, a, b with the capacities 1 and 2 a restart of a costs a at
-- most 1 stray and some of 3 items, and b 3 strays beside the new list, and some of 8 items. A
-- restart of r costs a and b 1 stray and some of 3 items; one of b costs b 2 strays and some of 5
-- items. Source: this project's own.
use Rattle.std.specs.Prelude.{ℕ, ◌+◌, ◌*◌, if◌then◌else◌, length, map}
use Rattle.std.specs.List.{range_with_len}
use Rattle.stab_convergence.specs.Greatest.{greatest}
use Rattle.stab_treecore.specs.Faults.{is_parent}
use Rattle.stab_treecore.specs.Network.{Network}
use Rattle.stab_treecore.specs.NodeLaws.{capacity_into}

-- some of the next `2 * capacity + 1` items may be missing where a link of this capacity is struck
abbrev pub missing_of : ℕ → ℕ
missing_of capacity = 2 * capacity + 1

-- the capacity of the link from a node to this child of it, and 0 for what is no child
abbrev pub capacity_to : Network → ℕ → ℕ → ℕ
capacity_to net node child =
    if is_parent net.tree.parents node child then capacity_into net child else 0

-- the greatest capacity of the links from a node to its children, and 0 where it has none
abbrev pub greatest_below : Network → ℕ → ℕ
greatest_below net node =
    greatest (map (capacity_to net node) (range_with_len 0 (length net.tree.parents)))
