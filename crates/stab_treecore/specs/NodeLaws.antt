-- The laws of all nodes: the bounds of a node are sums over the links on its path.
-- `most_strays` is C + E, the sums of `c` over the links on the path and of `h` over its inner
-- nodes; `most_missing` is M, the sum of `2c + 1`. The strays are picked from `path_garbage`, the
-- openings and the items of the links on the path. The complete law says more: no published item is
-- missing at all, except among the first ones.
-- Source: this project's own.
use Rattle.std.specs.Prelude.{◌≡◌, ℕ, ◌+◌, ◌*◌, ◌<◌, List, [], ◌++◌, length}
use Rattle.std.specs.Option.{option_map_or}
use Rattle.stab_core.specs.LinkLaw.{LinkLaw}
use Rattle.stab_core.specs.Replay.{start_items}
use Rattle.stab_treecore.specs.Network.{Network, setup_into}
use Rattle.stab_tree.specs.NodeOpenings.{hold_at, opening_at}
use Rattle.stab_treecore.specs.Paths.{path_sum, path_lists}
use mathlib.Core.List.{IsPrefix}
use Rattle.stab_treecore.specs.TreeLaw.{HalfTreeLaw, TreeLaw}

-- the capacity of the link into a node; the root has none
abbrev pub capacity_into : Network → ℕ → ℕ
capacity_into net node = option_map_or (λ link. link.params.capacity) (setup_into net node) 0

-- the items in the frames of the link into a node at its start
abbrev pub garbage_into : Network → ℕ → List ℕ
garbage_into net node = option_map_or (λ link. start_items link.start) (setup_into net node) []

-- the garbage on the path: the opening of a node and what the link into it holds, those of its
-- parent, and so on up to the root
abbrev pub path_garbage : Network → ℕ → List ℕ
path_garbage net node =
    path_lists net.tree.parents
    (λ child. opening_at net.openings.lists child ++ garbage_into net child) node

-- the most strays at a node that come of links: the capacities of the links on its path, added
abbrev pub strays_bound : Network → ℕ → ℕ
strays_bound net node = path_sum net.tree.parents (capacity_into net) node

-- the most strays at a node that come of openings: what each node on its path may hold, added
abbrev pub held_bound : Network → ℕ → ℕ
held_bound net node =
    path_sum net.tree.parents (hold_at net.tree.parents net.openings.hold) node

-- the most strays at a node
abbrev pub most_strays : Network → ℕ → ℕ
most_strays net node = strays_bound net node + held_bound net node

-- how many of the first published items may be missing at a node: 2c + 1 for each link on its path,
-- added
abbrev pub most_missing : Network → ℕ → ℕ
most_missing net node =
    path_sum net.tree.parents (λ child. 2 * capacity_into net child + 1) node

-- a link that obeys a law of links offered a prefix of the first list and delivered the second
abbrev pub LawBetween : (ℕ → List ℕ → List ℕ → ℕ → List ℕ → Type 0)
    → ℕ → List ℕ → List ℕ → List ℕ → Type 0
LawBetween Law capacity start_items above below =
    (offered : List ℕ) × (acked : ℕ) × IsPrefix offered above
    × Law capacity start_items offered acked below

-- the same of the link into a node, where the second list is the node's opening, strays that nobody
-- published, and then what the link delivered
abbrev pub LawInto : (ℕ → List ℕ → List ℕ → ℕ → List ℕ → Type 0)
    → Network → ℕ → List ℕ → List ℕ → Type 0
LawInto Law net child above below =
    (delivered : List ℕ) × (below ≡ opening_at net.openings.lists child ++ delivered)
    × LawBetween Law (capacity_into net child) (garbage_into net child) above delivered

-- both for the link law
abbrev pub LinkLawBetween : ℕ → List ℕ → List ℕ → List ℕ → Type 0
LinkLawBetween = LawBetween LinkLaw

abbrev pub LinkLawInto : Network → ℕ → List ℕ → List ℕ → Type 0
LinkLawInto = LawInto LinkLaw

-- the half tree law at each node
abbrev pub HalfTreeLawAtNodes : Network → (ℕ → List ℕ) → Type 0
HalfTreeLawAtNodes net received =
    (node : ℕ) → node < length net.tree.parents
    → HalfTreeLaw (most_strays net node) (path_garbage net node) net.published (received node)

-- the tree law at one node, and at each node
abbrev pub TreeLawAtNode : Network → (ℕ → List ℕ) → ℕ → Type 0
TreeLawAtNode net received node =
    TreeLaw (most_strays net node) (most_missing net node) (path_garbage net node)
    net.published (received node)

abbrev pub TreeLawAtNodes : Network → (ℕ → List ℕ) → Type 0
TreeLawAtNodes net received =
    (node : ℕ) → node < length net.tree.parents → TreeLawAtNode net received node
