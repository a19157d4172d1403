-- Any state of a whole tree, as a moment from which is counted; and what a node has received since.
-- Example: A node that had received 7 and 8, and later has 7, 8 and 9, received 9 since; after its
-- own restart it counts from its new list.
-- Source: this project's own.
use Rattle.std.specs.Prelude.{◌≡◌, ℕ, ◌+◌, ◌≤◌, List, [], ◌++◌, length, map, drop}
use Rattle.std.specs.Prelude.{Some, is_some}
use Rattle.std.specs.Option.{option_map_or}
use mathlib.Core.List.{IsPrefix}
use Rattle.stab_frames.specs.Parameters.{AreLawful}
use Rattle.stab_core.specs.Link.{LinkValue}
use Rattle.stab_core.specs.Replay.{start_items}
use Rattle.stab_tree.specs.IsTree.{IsRooted}
use Rattle.stab_tree.specs.Nodes.{Nodes, parent_at}
use Rattle.stab_treecore.specs.WholeTree.{WholeTree, link_into, received, source}
use Rattle.stab_core.specs.Since.{IsBounded, start_at}
use Rattle.stab_treecore.specs.Moment.{Moment}

-- Any state of a whole tree: each link has lawful parameters and bounded queues, whatever they
-- contain and whatever the labels are; a sender may hold an item; and no sender is past the end of
-- its node's list.
pub record IsState (tree : Nodes) (t : WholeTree) : Type 0 where
  pub is_tree : IsRooted tree.parents
  pub parents : t.parents ≡ tree.parents
  pub linked : map is_some t.links ≡ map is_some t.parents
  pub bounded : (w : ℕ) (link : LinkValue) → link_into t w ≡ Some link
      → AreLawful link.params × IsBounded link.params link.state
  pub within : (w parent : ℕ) (link : LinkValue) → parent_at t.parents w ≡ Some parent
      → link_into t w ≡ Some link → length link.state.offered ≤ length (received t parent)

-- the sender of the link into a node was offered a front of its node's list
abbrev pub IsFedAt : WholeTree → ℕ → Type 0
IsFedAt t w =
    (parent : ℕ) (link : LinkValue) → parent_at t.parents w ≡ Some parent
    → link_into t w ≡ Some link → IsPrefix link.state.offered (received t parent)

-- the backlog for a child at its parent: the item that the sender holds, and then what the child is
-- still to be offered
abbrev pub backlog : WholeTree → ℕ → List ℕ
backlog t w =
    option_map_or
    (λ link. drop link.state.acked link.state.offered
    ++ drop (length link.state.offered) (source t w))
    (link_into t w) []

-- the capacity of the link into a node, the items in its frames, and how many are acknowledged
abbrev pub capacity_at : WholeTree → ℕ → ℕ
capacity_at s w = option_map_or (λ link. link.params.capacity) (link_into s w) 0

abbrev pub queued_at : WholeTree → ℕ → List ℕ
queued_at s w = option_map_or (λ link. start_items (start_at link.state)) (link_into s w) []

abbrev pub acked_at : WholeTree → ℕ → ℕ
acked_at t w = option_map_or (λ link. link.state.acked) (link_into t w) 0

-- this state as a moment
abbrev pub moment : WholeTree → Moment
moment s =
    record {
      parents = s.parents;
      capacity = capacity_at s;
      queued = queued_at s;
      backlog = backlog s;
    }

-- what a node has received since; at the root what was published since
abbrev pub gained : WholeTree → WholeTree → ℕ → List ℕ
gained s t w = drop (length (received s w)) (received t w)

-- From the first of these states to the second the child received exactly what its parent has from
-- a place on: that of the item that the parent's sender held, or the next one, if that had arrived.
pub record PassesList (m t : WholeTree) (w parent : ℕ) : Type 0 where
  pub from : ℕ
  pub no_earlier : acked_at m w ≤ from
  pub no_later : from ≤ acked_at m w + 1
  pub in_list : from ≤ length (received m parent)
  pub in_order : IsPrefix (gained m t w) (drop from (received t parent))
  pub none_missing : acked_at t w ≤ from + length (gained m t w)
