-- An edge of the tree: the list of a node, the line to one of its children, and how many items of
-- the list the child's sender was offered. The child is offered nothing but the next item of the
-- list, when the node is polled.
-- Source: this project's own.
use Rattle.std.specs.Prelude.{ℕ, ◌+◌, Bool, true, false, if◌then◌else◌, List, [], ◌∷◌, ◌++◌}
use Rattle.std.specs.Prelude.{length, slice_get, Option, Some, None}
use Rattle.stab_frames.specs.declared.frame.Frame.{Frame}
use Rattle.stab_frames.specs.Parameters.{Parameters}
use Rattle.stab_line.specs.Ends.{SenderEnd, ReceiverEnd, accepts}
use Rattle.stab_line.specs.Line.{Line, LineAct, line_step, held, new_count}
use Rattle.stab_line.specs.Line.{offer_item}

pub record Edge : Type 0 where
  pub list : List ℕ
  pub count : ℕ
  pub line : Line

pub data EdgeAct : Type 0 where
  -- an item was delivered to the node, or published
  list_grows : ℕ → EdgeAct
  child_polled : EdgeAct
  -- any act on the line but an offer
  on_line : LineAct → EdgeAct

abbrev pub is_offer : LineAct → Bool
is_offer (offer_item item) = true
is_offer _ = false

-- the sender is offered the next item, where there is one
abbrev pub offers_next : Parameters → Edge → Option ℕ → Edge
offers_next p e None = e
offers_next p e (Some item) =
    record {
      list = e.list;
      count = if accepts e.line.sender then e.count + 1 else e.count;
      line = line_step p e.line (offer_item item);
    }

abbrev pub edge_step : Parameters → Edge → EdgeAct → Edge
edge_step p e (list_grows item) = record e { list = e.list ++ item ∷ [] }
edge_step p e child_polled = offers_next p e (slice_get e.list e.count)
edge_step p e (on_line act) =
    if is_offer act then e else record e { line = line_step p e.line act }

abbrev pub edge_run : Parameters → Edge → List EdgeAct → Edge
edge_run p e [] = e
edge_run p e (act ∷ acts) = edge_run p (edge_step p e act) acts

-- a new count of an edge: an item that the sender holds counts as offered
abbrev pub new_edge : List ℕ → List Frame → List ℕ → SenderEnd → ReceiverEnd → Edge
new_edge list frames acks sender receiver =
    record {
      list = list;
      count = length (held sender.state.item);
      line = new_count frames acks sender receiver;
    }

-- A new count of an edge whose child begins at this place of the list, which may have grown for
-- long by then. An item that the sender holds is the one at the place, and counts as offered.
abbrev pub edge_at : ℕ → List ℕ → List Frame → List ℕ → SenderEnd → ReceiverEnd → Edge
edge_at place list frames acks sender receiver =
    record {
      list = list;
      count = place + length (held sender.state.item);
      line = new_count frames acks sender receiver;
    }
