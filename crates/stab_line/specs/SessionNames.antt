-- Each end numbers its connections by itself, so one connection has two numbers. A naming says for
-- the numbers of one end which connections they mean. What a call does is the act of the laws
-- under any naming that tells connections apart.
-- Source: this project's own.
use Rattle.std.specs.Prelude.{◌≡◌, ℕ, ◌+◌, Bool, if◌then◌else◌, List, ◌∷◌, option_map}
use Rattle.stab_frames.specs.declared.frame.Frame.{Frame}
use Rattle.stab_frames.specs.Parameters.{Parameters}
use Rattle.stab_line.specs.Ends.{SenderEnd, ReceiverEnd}
use Rattle.stab_line.specs.Line.{with_taken}
use Rattle.stab_line.specs.NodeTree.{put}
use Rattle.stab_line.specs.Session.{Session}
use Rattle.stab_line.specs.SessionLink.{SessionLink, connection_step, frame_comes, ack_comes}

-- no two numbers mean one connection
abbrev pub TellsApart : (ℕ → ℕ) → Type 0
TellsApart name = (j k : ℕ) → name j ≡ name k → j ≡ k

-- the session of an end whose numbers mean these connections
abbrev pub known_as : (ℕ → ℕ) → Session → Session
known_as name s = record { connection = option_map name s.connection; turn = s.turn }

-- the front frame of this connection came, and was delivered or not
abbrev pub IsFrameHandledAs : (ℕ → ℕ) → ReceiverEnd → Session → ℕ → Frame → Bool → ReceiverEnd
    → Session → Type 0
IsFrameHandledAs name before session n frame delivered after session_after =
    (p : Parameters) (t : SessionLink) (rest : List Frame) → t.down (name n) ≡ frame ∷ rest
    → connection_step p (record t { receiver = before; at_receiver = known_as name session })
    (frame_comes (name n))
    ≡ record t {
      receiver = after;
      at_receiver = known_as name session_after;
      down = put t.down (name n) rest;
      delivered = with_taken delivered t.delivered frame.item;
    }

-- the front acknowledgement of this connection came, and the sender waited for it or not
abbrev pub IsAckHandledAs : (ℕ → ℕ) → Parameters → SenderEnd → Session → ℕ → ℕ → Bool
    → SenderEnd → Session → Type 0
IsAckHandledAs name p before session n label waited after session_after =
    (t : SessionLink) (rest : List ℕ) → t.up (name n) ≡ label ∷ rest
    → connection_step p (record t { sender = before; at_sender = known_as name session })
    (ack_comes (name n))
    ≡ record t {
      sender = after;
      at_sender = known_as name session_after;
      up = put t.up (name n) rest;
      acked = if waited then t.acked + 1 else t.acked;
    }
