-- A whole tree of nodes in which each link goes its own way: over a line, over connections that are
-- made again, or over two registers of a store; and what happens in it in one order.
-- Source: this project's own.
use Rattle.std.specs.Prelude.{ℕ, ◌+◌, Bool, true, if◌then◌else◌, List, [], ◌∷◌, ◌++◌}
use Rattle.std.specs.Prelude.{slice_get, Option, Some, None, is_none}
use Rattle.stab_frames.specs.Parameters.{Parameters}
use Rattle.stab_tree.specs.Nodes.{parent_at}
use Rattle.stab_treecore.specs.Network.{Network}
use Rattle.stab_line.specs.Ends.{accepts}
use Rattle.stab_line.specs.Edge.{is_offer}
use Rattle.stab_line.specs.Line.{Line, LineAct, line_step, offer_item}
use Rattle.stab_line.specs.NodeTree.{NodeTree, parameters_into, list_above, put}
use Rattle.stab_line.specs.Registers.{Registers, RegisterAct, is_offered, register_step}
use Rattle.stab_line.specs.Registers as registers
use Rattle.stab_line.specs.SessionLink.{SessionLink, ConnectionAct, InTurn, connection_step}
use Rattle.stab_line.specs.SessionLink.{link_step}
use Rattle.stab_line.specs.SessionLink as connections

-- what the link into a child goes over
pub data Way : Type 0 where
  over_line : Line → Way
  over_connections : SessionLink → Way
  over_registers : Registers → Way

-- what happens there, but offers
pub data WayAct : Type 0 where
  on_line : LineAct → WayAct
  on_connections : ConnectionAct → WayAct
  on_registers : RegisterAct → WayAct

-- the line that it is
abbrev pub way_line : Parameters → Way → Line
way_line p (over_line l) = l
way_line p (over_connections t) = connections.line_of t
way_line p (over_registers r) = registers.line_of p r

-- the sender's end can be polled: it has got nothing that its sender was not given yet
abbrev pub is_free : Way → Bool
is_free (over_line l) = true
is_free (over_connections t) = true
is_free (over_registers r) = is_none r.ack_got

-- after its sender was offered an item
abbrev pub way_offered : Parameters → Way → ℕ → Way
way_offered p (over_line l) item = over_line (line_step p l (offer_item item))
way_offered p (over_connections t) item =
    over_connections (link_step p t (connections.item_offered item))
way_offered p (over_registers r) item =
    over_registers (register_step p r (registers.item_offered item))

-- after something happened that is of its own kind and offers nothing; else it stays
abbrev pub way_step : Parameters → Way → WayAct → Way
way_step p (over_line l) (on_line act) =
    over_line (if is_offer act then l else line_step p l act)
way_step p (over_connections t) (on_connections act) =
    over_connections (connection_step p t act)
way_step p (over_registers r) (on_registers act) =
    over_registers (if is_offered act then r else register_step p r act)
way_step p way act = way

-- its connections are in turn, if it has any
abbrev pub KeepsTurns : Way → Type 0
KeepsTurns (over_line l) = Unit {0}
KeepsTurns (over_connections t) = InTurn t
KeepsTurns (over_registers r) = Unit {0}

pub record MixedTree : Type 0 where
  -- what the root published until now
  pub published : List ℕ
  -- for each child how many items of its parent's list the sender was offered, and the link
  pub counts : ℕ → ℕ
  pub ways : ℕ → Way

pub data MixedAct : Type 0 where
  publishes : ℕ → MixedAct
  -- the parent of this child is polled: the child's sender is offered the next item
  polls : ℕ → MixedAct
  -- anything but an offer at the link into this child
  at_way : ℕ → WayAct → MixedAct

-- the tree of nodes with a line each that it is
abbrev pub nodes_of : Network → MixedTree → NodeTree
nodes_of net t =
    record {
      published = t.published;
      counts = t.counts;
      lines = λ n. way_line (parameters_into net n) (t.ways n);
    }

-- the child's sender is offered this item
abbrev pub offered_at : Network → MixedTree → ℕ → ℕ → MixedTree
offered_at net t child item =
    let p = parameters_into net child in
    record t {
      counts =
          put t.counts child
          (if accepts (way_line p (t.ways child)).sender then t.counts child + 1
          else t.counts child);
      ways = put t.ways child (way_offered p (t.ways child) item);
    }

-- the child's sender is offered the next item, where there is one and its end can be polled
abbrev pub offers : Network → MixedTree → ℕ → Option ℕ → MixedTree
offers net t child None = t
offers net t child (Some item) =
    if is_free (t.ways child) then offered_at net t child item else t

-- something happens at the link into a child, where it has one
abbrev pub acts_at : Network → MixedTree → ℕ → WayAct → Option ℕ → MixedTree
acts_at net t child act None = t
acts_at net t child act (Some parent) =
    record t {
      ways = put t.ways child (way_step (parameters_into net child) (t.ways child) act);
    }

abbrev pub mixed_step : Network → MixedTree → MixedAct → MixedTree
mixed_step net t (publishes item) = record t { published = t.published ++ item ∷ [] }
mixed_step net t (polls child) =
    offers net t child (slice_get (list_above net (nodes_of net t) child) (t.counts child))
mixed_step net t (at_way child act) =
    acts_at net t child act (parent_at net.tree.parents child)

abbrev pub mixed_run : Network → MixedTree → List MixedAct → MixedTree
mixed_run net t [] = t
mixed_run net t (act ∷ acts) = mixed_run net (mixed_step net t act) acts

-- the connections of every link that goes over connections are in turn
abbrev pub AllKeepTurns : MixedTree → Type 0
AllKeepTurns t = (n : ℕ) → KeepsTurns (t.ways n)
