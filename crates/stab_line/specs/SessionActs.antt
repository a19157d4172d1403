-- Each call of a session as an act of the laws: on every link that has the end and the session
-- which the call found, the step of the act leaves those which the call left, and sends what it
-- wrote.
-- Source: this project's own.
use Rattle.std.specs.Prelude.{◌≡◌, ℕ, ◌+◌, Bool, true, false, if◌then◌else◌, List, ◌∷◌, Option}
use Rattle.stab_frames.specs.declared.frame.Frame.{Frame}
use Rattle.stab_frames.specs.Parameters.{Parameters}
use Rattle.stab_line.specs.Ends.{SenderEnd, ReceiverEnd}
use Rattle.stab_line.specs.Line.{with_taken}
use Rattle.stab_line.specs.NodeTree.{put}
use Rattle.stab_line.specs.Session.{Session}
use Rattle.stab_line.specs.SessionLink.{SessionLink, connection_step, put_on, unused, made}
use Rattle.stab_line.specs.SessionLink.{accepted}
use Rattle.stab_line.specs.SessionLink.{sender_makes, receiver_makes, sender_accepts}
use Rattle.stab_line.specs.SessionLink.{receiver_accepts, sender_leaves, receiver_leaves}
use Rattle.stab_line.specs.SessionLink.{frame_sent}
use Rattle.stab_line.specs.SessionLink.{ack_sent, frame_comes, ack_comes}

-- this connection was made, by the sender's end or by the receiver's, and the one before was left
abbrev pub IsMade : Session → ℕ → Session → Type 0
IsMade before n after =
    (p : Parameters) (t : SessionLink) → t.stage n ≡ unused
    → (connection_step p (record t { at_sender = before }) (sender_makes n)
    ≡ record t { stage = put t.stage n (made true); at_sender = after })
    × (connection_step p (record t { at_receiver = before }) (receiver_makes n)
    ≡ record t { stage = put t.stage n (made false); at_receiver = after })

-- this connection was accepted, by the sender's end or by the receiver's, and the one before was
-- left
abbrev pub IsAccepted : Session → ℕ → Session → Type 0
IsAccepted before n after =
    (p : Parameters) (t : SessionLink)
    → (t.stage n ≡ made false
    → connection_step p (record t { at_sender = before }) (sender_accepts n)
    ≡ record t { stage = put t.stage n accepted; at_sender = after })
    × (t.stage n ≡ made true
    → connection_step p (record t { at_receiver = before }) (receiver_accepts n)
    ≡ record t { stage = put t.stage n accepted; at_receiver = after })

-- this connection was left, by the sender's end or by the receiver's
abbrev pub IsLeft : Session → ℕ → Session → Type 0
IsLeft before n after =
    (p : Parameters) (t : SessionLink)
    → (connection_step p (record t { at_sender = before }) (sender_leaves n)
    ≡ record t { at_sender = after })
    × (connection_step p (record t { at_receiver = before }) (receiver_leaves n)
    ≡ record t { at_receiver = after })

-- this frame was sent on the connection, or none
abbrev pub IsFrameSentInTurn : SenderEnd → Session → Option Frame → Session → Type 0
IsFrameSentInTurn sender before sent after =
    (p : Parameters) (t : SessionLink)
    → connection_step p (record t { sender = sender; at_sender = before }) frame_sent
    ≡ record t {
      sender = sender;
      at_sender = after;
      down = put_on before.connection t.down sent;
    }

-- this label was sent on the connection, or none
abbrev pub IsAckSentInTurn : ReceiverEnd → Session → Option ℕ → Session → Type 0
IsAckSentInTurn receiver before sent after =
    (p : Parameters) (t : SessionLink)
    → connection_step p (record t { receiver = receiver; at_receiver = before }) ack_sent
    ≡ record t {
      receiver = receiver;
      at_receiver = after;
      up = put_on before.connection t.up sent;
    }

-- the front frame of this connection came, and was delivered or not
abbrev pub IsFrameHandled : ReceiverEnd → Session → ℕ → Frame → Bool → ReceiverEnd → Session
    → Type 0
IsFrameHandled before session n frame delivered after session_after =
    (p : Parameters) (t : SessionLink) (rest : List Frame) → t.down n ≡ frame ∷ rest
    → connection_step p (record t { receiver = before; at_receiver = session }) (frame_comes n)
    ≡ record t {
      receiver = after;
      at_receiver = session_after;
      down = put t.down n rest;
      delivered = with_taken delivered t.delivered frame.item;
    }

-- the front acknowledgement of this connection came, and the sender waited for it or not
abbrev pub IsAckHandled : Parameters → SenderEnd → Session → ℕ → ℕ → Bool → SenderEnd → Session
    → Type 0
IsAckHandled p before session n label waited after session_after =
    (t : SessionLink) (rest : List ℕ) → t.up n ≡ label ∷ rest
    → connection_step p (record t { sender = before; at_sender = session }) (ack_comes n)
    ≡ record t {
      sender = after;
      at_sender = session_after;
      up = put t.up n rest;
      acked = if waited then t.acked + 1 else t.acked;
    }
