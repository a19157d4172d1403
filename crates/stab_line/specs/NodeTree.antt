-- A whole tree of nodes, each with a line to each of its children, and what happens in it in one
-- order. A node's list is its opening and then what its receiver delivered; the root's is what it
-- published. The link into a child is named by the child.
-- Source: this project's own.
use Rattle.std.specs.Prelude.{◌≡◌, ℕ, ◌==◌, if◌then◌else◌, List, [], ◌∷◌, ◌++◌, Some}
use Rattle.std.specs.Option.{option_map_or}
use mathlib.Core.List.{IsPrefix}
use Rattle.stab_frames.specs.Parameters.{Parameters}
use Rattle.stab_core.specs.LinkSetup.{LinkSetup}
use Rattle.stab_tree.specs.Nodes.{parent_at}
use Rattle.stab_tree.specs.Steps.{ancestor}
use Rattle.stab_treecore.specs.Network.{Network, setup_into}
use Rattle.stab_tree.specs.NodeOpenings.{opening_at}
use Rattle.stab_line.specs.Line.{Line, LineAct, held}
use Rattle.stab_line.specs.Edge.{Edge, edge_step, new_edge, child_polled, on_line}

pub record NodeTree : Type 0 where
  -- what the root published until now
  pub published : List ℕ
  -- for each child how many items of its parent's list the sender was offered, and the line
  pub counts : ℕ → ℕ
  pub lines : ℕ → Line

-- what happens in the tree: each act of a node is one call of the library
pub data NodeAct : Type 0 where
  -- the root publishes an item
  publishes : ℕ → NodeAct
  -- the parent of this child is polled: the child's sender is offered the next item
  polls : ℕ → NodeAct
  -- Any act but an offer on the line into this child. A fresh frame for which the child's list has
  -- no place is lost on the line, or stays there where it is repeated.
  at_line : ℕ → LineAct → NodeAct

-- the list of a node
abbrev pub list_of : Network → NodeTree → ℕ → List ℕ
list_of net t node =
    option_map_or (λ parent. opening_at net.openings.lists node ++ (t.lines node).delivered)
    (parent_at net.tree.parents node) t.published

-- the list of a child's parent
abbrev pub list_above : Network → NodeTree → ℕ → List ℕ
list_above net t child = option_map_or (list_of net t) (parent_at net.tree.parents child) []

-- the parameters of the link into a child
abbrev pub parameters_into : Network → ℕ → Parameters
parameters_into net child =
    option_map_or (λ link. link.params) (setup_into net child) (record { capacity = 0; labels = 0 })

-- the edge from its parent to a child
abbrev pub edge_into : Network → NodeTree → ℕ → Edge
edge_into net t child =
    record { list = list_above net t child; count = t.counts child; line = t.lines child }

-- at this place the entry, and what was there at any other
abbrev pub put : {A : Type 0} → (ℕ → A) → ℕ → A → ℕ → A
put entries place entry n = if n == place then entry else entries n

-- the tree after something happened at the edge into a child
abbrev pub with_edge : NodeTree → ℕ → Edge → NodeTree
with_edge t child e =
    record t { counts = put t.counts child e.count; lines = put t.lines child e.line }

abbrev pub node_step : Network → NodeTree → NodeAct → NodeTree
node_step net t (publishes item) = record t { published = t.published ++ item ∷ [] }
node_step net t (polls child) =
    with_edge t child (edge_step (parameters_into net child) (edge_into net t child) child_polled)
node_step net t (at_line child act) =
    with_edge t child (edge_step (parameters_into net child) (edge_into net t child) (on_line act))

abbrev pub node_run : Network → NodeTree → List NodeAct → NodeTree
node_run net t [] = t
node_run net t (act ∷ acts) = node_run net (node_step net t act) acts

-- A new count of the link into a child: the line holds what the link's start says. Its two ends may
-- have any labels and may be closed, and an item that the sender holds is the first of the parent's
-- list.
pub record BeginsInto (net : Network) (t : NodeTree) (child : ℕ) : Type 0 where
  pub link : LinkSetup
  pub leads : setup_into net child ≡ Some link
  pub begins : edge_into net t child
      ≡ new_edge (list_above net t child) link.start.frames link.start.acks
      (t.lines child).sender (t.lines child).receiver
  pub holds_first : IsPrefix (held (t.lines child).sender.state.item) (list_above net t child)

-- A new count of the path to one node. The list of a node on the path begins with the first item
-- that its child on the path has not acknowledged, wherever its other children are.
abbrev pub PathBegins : Network → NodeTree → ℕ → Type 0
PathBegins net t node =
    (steps child parent : ℕ) → ancestor net.tree.parents steps node ≡ Some child
    → parent_at net.tree.parents child ≡ Some parent → BeginsInto net t child

-- a new count of the whole tree, where all children of a node are at the same item
abbrev pub TreeBegins : Network → NodeTree → Type 0
TreeBegins net t =
    (child parent : ℕ) → parent_at net.tree.parents child ≡ Some parent → BeginsInto net t child
