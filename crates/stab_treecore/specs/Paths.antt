-- What there is along a node's path: beside the node itself, beside its parent, and so on; the root
-- has nothing beside it.
-- Source: this project's own.
use Rattle.std.specs.Prelude.{ℕ, zero, suc, ◌+◌, List, [], ◌++◌, Option}
use Rattle.std.specs.Option.{option_map_or}
use Rattle.stab_tree.specs.Nodes.{parent_at}
use Rattle.stab_tree.specs.Steps.{depth_of}

-- the sum of the numbers beside this many nodes, from a node upwards
abbrev pub sum_above : List (Option ℕ) → (ℕ → ℕ) → ℕ → ℕ → ℕ
sum_above parents number zero node = 0
sum_above parents number (suc count) node =
    number node + option_map_or (sum_above parents number count) (parent_at parents node) 0

-- the sum of the numbers beside the nodes of a path, of which there is one for each link
abbrev pub path_sum : List (Option ℕ) → (ℕ → ℕ) → ℕ → ℕ
path_sum parents number node = sum_above parents number (depth_of parents node) node

-- the lists beside this many nodes, from a node upwards, one after the other
abbrev pub lists_above : List (Option ℕ) → (ℕ → List ℕ) → ℕ → ℕ → List ℕ
lists_above parents list zero node = []
lists_above parents list (suc count) node =
    list node ++ option_map_or (lists_above parents list count) (parent_at parents node) []

-- the lists beside the nodes of a path, the node's own first
abbrev pub path_lists : List (Option ℕ) → (ℕ → List ℕ) → ℕ → List ℕ
path_lists parents list node = lists_above parents list (depth_of parents node) node
