-- Exchanges among any acts of a link over connections. One is completed where the sender's end
-- sends a frame on a connection, the receiver's end then hears a frame there, and the sender's end
-- then hears an acknowledgement there. Anything else may happen between. A frame on a newer
-- connection begins an exchange anew, since an end never comes back to one that it left.
-- Example: The receiver's end makes connection 4, and the sender's end, which has an item, accepts
-- it. Then `frame_sent`, `frame_comes 4`, `ack_sent` and `ack_comes 4` are one exchange, also where
-- an item is offered and a stranger makes connection 5 between. Where the receiver's end leaves
-- connection 4 before `frame_comes 4` they are none: the frame is dropped.
-- Source: this project's own.
use Rattle.std.specs.Prelude.{ℕ, ◌+◌, ◌==◌, ◌&&◌, Bool, if◌then◌else◌, List, [], ◌∷◌, slice_get}
use Rattle.std.specs.Prelude.{Option, None, is_some}
use Rattle.std.specs.Option.{option_map_or}
use Rattle.stab_frames.specs.Parameters.{Parameters}
use Rattle.stab_line.specs.Ends.{frame_to_send}
use Rattle.stab_line.specs.Session.{Session, has, sent_now}
use Rattle.stab_line.specs.SessionLink.{SessionLink, LinkAct, happens, frame_sent, frame_comes}
use Rattle.stab_line.specs.SessionLink.{ack_comes, link_step}

-- what an exchange waits for: that the sender's end sends a frame, that a frame is heard on this
-- connection, that an acknowledgement is heard there
pub data Exchange : Type 0 where
  sending : Exchange
  arrival : ℕ → Exchange
  answer : ℕ → Exchange

-- the connection on which an end sends this now, if it sends
abbrev pub sent_on : {A : Type 0} → Session → Option A → Option ℕ
sent_on s x = if is_some (sent_now s x) then s.connection else None

-- the end hears the front message of this connection: there is one, and the end has the connection
abbrev pub hears : {A : Type 0} → Session → (ℕ → List A) → ℕ → Bool
hears s messages n = is_some (slice_get (messages n) 0) && has s n

-- what it waits for after an act
abbrev pub exchange_after : SessionLink → Exchange → LinkAct → Exchange
exchange_after t e (happens frame_sent) =
    option_map_or arrival (sent_on t.at_sender (frame_to_send t.sender)) e
exchange_after t (arrival n) (happens (frame_comes m)) =
    if hears t.at_receiver t.down m && (m == n) then answer n else arrival n
exchange_after t (answer n) (happens (ack_comes m)) =
    if hears t.at_sender t.up m && (m == n) then sending else answer n
exchange_after t e act = e

-- an acknowledgement that is heard completes it
abbrev pub exchanged_by : SessionLink → Exchange → LinkAct → ℕ
exchanged_by t (answer n) (happens (ack_comes m)) =
    if hears t.at_sender t.up m && (m == n) then 1 else 0
exchanged_by t e act = 0

-- the exchanges that these acts complete, where this is awaited first
abbrev pub exchanges_from : Parameters → SessionLink → Exchange → List LinkAct → ℕ
exchanges_from p t e [] = 0
exchanges_from p t e (act ∷ acts) =
    exchanged_by t e act + exchanges_from p (link_step p t act) (exchange_after t e act) acts

-- the exchanges that are completed among these acts, one after the other
abbrev pub completed_exchanges : Parameters → SessionLink → List LinkAct → ℕ
completed_exchanges p t acts = exchanges_from p t sending acts
