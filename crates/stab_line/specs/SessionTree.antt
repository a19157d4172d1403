-- A whole tree of nodes whose links go over connections, and what happens in it in one order.
-- Source: this project's own.
use Rattle.std.specs.Prelude.{ℕ, ◌+◌, if◌then◌else◌, List, [], ◌∷◌, ◌++◌}
use Rattle.std.specs.Prelude.{slice_get, Option, Some, None}
use Rattle.stab_frames.specs.Parameters.{Parameters}
use Rattle.stab_tree.specs.Nodes.{parent_at}
use Rattle.stab_treecore.specs.Network.{Network}
use Rattle.stab_line.specs.Ends.{accepts}
use Rattle.stab_line.specs.NodeTree.{NodeTree, parameters_into, list_above, put}
use Rattle.stab_line.specs.SessionLink.{SessionLink, ConnectionAct, InTurn, connection_step}
use Rattle.stab_line.specs.SessionLink.{link_step, item_offered}
use Rattle.stab_line.specs.SessionLink.{line_of}

pub record SessionTree : Type 0 where
  -- what the root published until now
  pub published : List ℕ
  -- for each child how many items of its parent's list the sender was offered, and the link
  pub counts : ℕ → ℕ
  pub links : ℕ → SessionLink

pub data TreeAct : Type 0 where
  publishes : ℕ → TreeAct
  -- the parent of this child is polled: the child's sender is offered the next item
  polls : ℕ → TreeAct
  -- any act but an offer on the link into this child
  at_link : ℕ → ConnectionAct → TreeAct

-- the tree of nodes with a line each that it is
abbrev pub nodes_of : SessionTree → NodeTree
nodes_of t =
    record { published = t.published; counts = t.counts; lines = λ n. line_of (t.links n) }

-- the child's sender is offered the next item, where there is one
abbrev pub offers : Parameters → SessionTree → ℕ → Option ℕ → SessionTree
offers p t child None = t
offers p t child (Some item) =
    record t {
      counts =
          put t.counts child
          (if accepts (t.links child).sender then t.counts child + 1 else t.counts child);
      links = put t.links child (link_step p (t.links child) (item_offered item));
    }

-- something happens at the link into a child, where it has one
abbrev pub acts_at : Parameters → SessionTree → ℕ → ConnectionAct → Option ℕ → SessionTree
acts_at p t child act None = t
acts_at p t child act (Some parent) =
    record t { links = put t.links child (connection_step p (t.links child) act) }

abbrev pub tree_step : Network → SessionTree → TreeAct → SessionTree
tree_step net t (publishes item) = record t { published = t.published ++ item ∷ [] }
tree_step net t (polls child) =
    offers (parameters_into net child) t child
    (slice_get (list_above net (nodes_of t) child) (t.counts child))
tree_step net t (at_link child act) =
    acts_at (parameters_into net child) t child act (parent_at net.tree.parents child)

abbrev pub tree_run : Network → SessionTree → List TreeAct → SessionTree
tree_run net t [] = t
tree_run net t (act ∷ acts) = tree_run net (tree_step net t act) acts

-- the connections of every link are in turn
abbrev pub AllInTurn : SessionTree → Type 0
AllInTurn t = (n : ℕ) → InTurn (t.links n)
