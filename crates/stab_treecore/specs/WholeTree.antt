-- The state of a whole tree: the published items, and of each node, in file order, its opening, its
-- parent and the link into it.
-- Source: this project's profile.
use Rattle.std.specs.Prelude.{ℕ, List, [], ◌++◌, Option, Some, None, slice_index_or}
use Rattle.std.specs.Option.{option_map_or}
use Rattle.stab_core.specs.Link.{LinkValue}
use Rattle.stab_tree.specs.Nodes.{parent_at}
use Rattle.stab_tree.specs.NodeOpenings.{opening_at}

pub record WholeTree : Type 0 where
  -- the items that the root publishes
  pub published : List ℕ
  -- what each node begins with that nobody published
  pub openings : List (List ℕ)
  -- the parent of each node, and nothing at the root
  pub parents : List (Option ℕ)
  -- the link into each node, and nothing at the root
  pub links : List (Option LinkValue)

-- the link into a node; the root has none, nor has what is no node
abbrev pub link_into : WholeTree → ℕ → Option LinkValue
link_into t node = slice_index_or t.links node None

-- what a node received: its opening, and then what the link into it delivered; at the root each
-- published item
abbrev pub received : WholeTree → ℕ → List ℕ
received t node =
    option_map_or (λ link. opening_at t.openings node ++ link.state.delivered) (link_into t node)
    t.published

-- the items that the link into a node offers, in their order: what the parent received
abbrev pub source : WholeTree → ℕ → List ℕ
source t child = option_map_or (λ parent. received t parent) (parent_at t.parents child) []

-- how many items of the link into a node are acknowledged
abbrev pub acked_of : WholeTree → ℕ → Option ℕ
acked_of t node = option_map_or (λ link. Some link.state.acked) (link_into t node) None
