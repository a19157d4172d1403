-- A tree of nodes in which a list is all that its node ever had: what it had before the count, and
-- then its list since. Each child is at a place of the whole list of its parent, wherever its
-- siblings are. This is what nodes do that forget what their children were offered.
-- Source: this project's own.
use Rattle.std.specs.Prelude.{◌≡◌, ℕ, List, [], ◌∷◌, ◌++◌, length, Some}
use Rattle.std.specs.Option.{option_map_or}
use mathlib.Core.List.{IsPrefix}
use Rattle.stab_core.specs.LinkSetup.{LinkSetup}
use Rattle.stab_tree.specs.Nodes.{parent_at}
use Rattle.stab_tree.specs.Steps.{ancestor}
use Rattle.stab_treecore.specs.Network.{Network, setup_into}
use Rattle.stab_line.specs.Line.{held}
use Rattle.stab_line.specs.Edge.{Edge, edge_step, edge_at, child_polled, on_line}
use Rattle.stab_line.specs.NodeTree.{NodeTree, NodeAct, list_of, parameters_into, with_edge}
use Rattle.stab_line.specs.NodeTree.{publishes, polls, at_line}

-- the whole list of a node: what it had before, and its list since
abbrev pub whole_list : Network → (ℕ → List ℕ) → NodeTree → ℕ → List ℕ
whole_list net past t node = past node ++ list_of net t node

-- the whole list of a child's parent
abbrev pub whole_above : Network → (ℕ → List ℕ) → NodeTree → ℕ → List ℕ
whole_above net past t child =
    option_map_or (whole_list net past t) (parent_at net.tree.parents child) []

-- the edge to a child from its parent with its whole list
abbrev pub whole_edge : Network → (ℕ → List ℕ) → NodeTree → ℕ → Edge
whole_edge net past t child =
    record {
      list = whole_above net past t child;
      count = t.counts child;
      line = t.lines child;
    }

-- each child is offered what is next in the whole list
abbrev pub whole_step : Network → (ℕ → List ℕ) → NodeTree → NodeAct → NodeTree
whole_step net past t (publishes item) = record t { published = t.published ++ item ∷ [] }
whole_step net past t (polls child) =
    with_edge t child
    (edge_step (parameters_into net child) (whole_edge net past t child) child_polled)
whole_step net past t (at_line child act) =
    with_edge t child
    (edge_step (parameters_into net child) (whole_edge net past t child) (on_line act))

abbrev pub whole_run : Network → (ℕ → List ℕ) → NodeTree → List NodeAct → NodeTree
whole_run net past t [] = t
whole_run net past t (act ∷ acts) = whole_run net past (whole_step net past t act) acts

-- A new count of the link into a child: it is at the place of its parent's whole list where what
-- was before ends, or its sender holds the item that is there.
pub record BeginsAt (net : Network) (past : ℕ → List ℕ) (t : NodeTree) (child parent : ℕ)
    : Type 0 where
  pub link : LinkSetup
  pub leads : setup_into net child ≡ Some link
  pub begins : whole_edge net past t child
      ≡ edge_at (length (past parent)) (whole_above net past t child) link.start.frames
      link.start.acks (t.lines child).sender (t.lines child).receiver
  pub holds : IsPrefix (held (t.lines child).sender.state.item) (list_of net t parent)

-- A new count of the path to one node: what each node on the path had before ends at the place of
-- its child on the path, wherever its other children are.
abbrev pub PathBeginsAt : Network → (ℕ → List ℕ) → NodeTree → ℕ → Type 0
PathBeginsAt net past t node =
    (steps child parent : ℕ) → ancestor net.tree.parents steps node ≡ Some child
    → parent_at net.tree.parents child ≡ Some parent → BeginsAt net past t child parent
