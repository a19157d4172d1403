-- Each call of the library as an act of the laws: on every line that has the end which the call
-- found, the step of the act leaves the end which the call left and records what it returned, and
-- nothing else changes. So what calls did to two ends is a run of the line, and of an edge.
-- Source: this project's own.
use Rattle.std.specs.Prelude.{◌≡◌, ℕ, ◌+◌, Bool, if◌then◌else◌, List, ◌∷◌, Option, Some, None}
use Rattle.stab_frames.specs.declared.frame.Frame.{Frame}
use Rattle.stab_frames.specs.Parameters.{Parameters}
use Rattle.stab_core.specs.Step.{after_front}
use Rattle.stab_line.specs.Ends.{SenderEnd, ReceiverEnd}
use Rattle.stab_line.specs.Line.{Line, line_step, after_sending, with_taken}
use Rattle.stab_line.specs.Line.{offer_item, frame_sent, frame_comes, ack_sent, ack_comes}
use Rattle.stab_line.specs.Line.{sender_closes, receiver_closes}
use Rattle.stab_line.specs.Edge.{edge_step, child_polled, on_line}

-- what a call wrote, where it returned true
abbrev pub answered : {A : Type 0} → Bool → A → Option A
answered wrote x = if wrote then Some x else None

-- the item was offered, and taken or not
abbrev pub IsOffer : SenderEnd → ℕ → Bool → SenderEnd → Type 0
IsOffer before item taken after =
    (p : Parameters) (l : Line)
    → line_step p (record l { sender = before }) (offer_item item)
    ≡ record l { sender = after; offered = with_taken taken l.offered item }

-- this frame was sent, or none
abbrev pub IsFrameSent : SenderEnd → Option Frame → Type 0
IsFrameSent sender sent =
    (p : Parameters) (l : Line)
    → line_step p (record l { sender = sender }) frame_sent
    ≡ record l { sender = sender; frames = after_sending p l.frames sent }

-- the front acknowledgement came, and the sender waited for it or not
abbrev pub IsAckReceived : Parameters → SenderEnd → ℕ → Bool → SenderEnd → Type 0
IsAckReceived p before label waited after =
    (repeated : Bool) (l : Line) (rest : List ℕ)
    → line_step p (record l { sender = before; acks = label ∷ rest }) (ack_comes repeated)
    ≡ record l {
      sender = after;
      acks = after_front repeated (label ∷ rest);
      acked = if waited then l.acked + 1 else l.acked;
    }

-- the sender was closed
abbrev pub IsSenderClosed : SenderEnd → SenderEnd → Type 0
IsSenderClosed before after =
    (p : Parameters) (l : Line)
    → line_step p (record l { sender = before }) sender_closes ≡ record l { sender = after }

-- the front frame came, and was delivered or not
abbrev pub IsFrameReceived : ReceiverEnd → Frame → Bool → ReceiverEnd → Type 0
IsFrameReceived before frame delivered after =
    (p : Parameters) (repeated : Bool) (l : Line) (rest : List Frame)
    → line_step p (record l { receiver = before; frames = frame ∷ rest }) (frame_comes repeated)
    ≡ record l {
      receiver = after;
      frames = after_front repeated (frame ∷ rest);
      delivered = with_taken delivered l.delivered frame.item;
    }

-- this label was acknowledged, or none
abbrev pub IsAckSent : ReceiverEnd → Option ℕ → Type 0
IsAckSent receiver sent =
    (p : Parameters) (l : Line)
    → line_step p (record l { receiver = receiver }) ack_sent
    ≡ record l { receiver = receiver; acks = after_sending p l.acks sent }

-- the receiver was closed
abbrev pub IsReceiverClosed : ReceiverEnd → ReceiverEnd → Type 0
IsReceiverClosed before after =
    (p : Parameters) (l : Line)
    → line_step p (record l { receiver = before }) receiver_closes ≡ record l { receiver = after }

-- the child of a node with this list was polled, whose sender was offered `count` items before and
-- `count_after` items after, and then this frame was sent, or none
abbrev pub IsPolled : List ℕ → ℕ → SenderEnd → ℕ → SenderEnd → Option Frame → Type 0
IsPolled list count before count_after after sent =
    (p : Parameters) (l : Line)
    → let line = record l { sender = before } in
    let e = edge_step p (record { list = list; count = count; line = line }) child_polled in
    (e.count ≡ count_after) × (e.line.sender ≡ after)
    × ((edge_step p e (on_line frame_sent)).line.frames ≡ after_sending p l.frames sent)
