-- A link over connections that are made again and again, as over TCP: one end makes them and the
-- other accepts them, late, in any order or never; either end may make them. Each direction of each
-- connection is first in first out and may lose any message at any time. An end handles what its
-- newest connection brings, and drops what any other brings. The end that accepts has the first
-- turn.
-- Source: this project's own.
use Rattle.std.specs.Prelude.{ℕ, ◌+◌, ◌≤◌, ◌&&◌, Bool, true, false, if◌then◌else◌}
use Rattle.std.specs.Prelude.{List, [], ◌∷◌, ◌++◌, length, drop, slice_get, Option, Some, None}
use Rattle.stab_frames.specs.declared.frame.Frame.{Frame}
use Rattle.stab_frames.specs.Parameters.{Parameters}
use Rattle.stab_frames.specs.Queue.{without}
use Rattle.stab_line.specs.Ends.{SenderEnd, ReceiverEnd, accepts, offered_to, frame_to_send}
use Rattle.stab_line.specs.Ends.{acknowledges, after_ack, closed_sender, delivers, after_frame}
use Rattle.stab_line.specs.Ends.{ack_to_send, closed_receiver}
use Rattle.stab_line.specs.Line.{Line, with_taken, held}
use Rattle.stab_line.specs.NodeTree.{put}
use Rattle.stab_line.specs.Session.{Session, no_session, session_on, has, sent_now, turn_after}
use Rattle.stab_line.specs.Session.{after_message, after_end}

-- how far a connection has come
pub data Stage : Type 0 where
  unused : Stage
  -- made, by the sender's side (true) or by the receiver's
  made : Bool → Stage
  accepted : Stage

pub record SessionLink : Type 0 where
  -- what is under way on each connection, the front first: frames, and acknowledgements
  pub down : ℕ → List Frame
  pub up : ℕ → List ℕ
  pub stage : ℕ → Stage
  -- the sender's end and its session, the receiver's end and its session
  pub sender : SenderEnd
  pub at_sender : Session
  pub receiver : ReceiverEnd
  pub at_receiver : Session
  -- the items that the sender took, how many were acknowledged, and the items that were delivered
  pub offered : List ℕ
  pub acked : ℕ
  pub delivered : List ℕ

-- what happens at an end or in the network, but offers
pub data ConnectionAct : Type 0 where
  -- an end makes this connection, and leaves the one that it had
  sender_makes : ℕ → ConnectionAct
  receiver_makes : ℕ → ConnectionAct
  -- somebody else makes this connection, in the name of the sender's side (true) or the receiver's,
  -- and sends nothing on it
  stranger_makes : Bool → ℕ → ConnectionAct
  -- an end accepts this connection, and leaves the one that it had
  sender_accepts : ℕ → ConnectionAct
  receiver_accepts : ℕ → ConnectionAct
  -- an end leaves this connection: it closes it, or learns that it broke
  sender_leaves : ℕ → ConnectionAct
  receiver_leaves : ℕ → ConnectionAct
  -- an end is asked what to send, and sends it
  frame_sent : ConnectionAct
  ack_sent : ConnectionAct
  -- the front message of this connection comes to an end, which handles it or drops it
  frame_comes : ℕ → ConnectionAct
  ack_comes : ℕ → ConnectionAct
  -- the message at this place of this connection is lost
  frame_lost : ℕ → ℕ → ConnectionAct
  ack_lost : ℕ → ℕ → ConnectionAct
  -- an end closes for good
  sender_closes : ConnectionAct
  receiver_closes : ConnectionAct

-- what is under way on the connection that an end has
abbrev pub on_it : {A : Type 0} → Option ℕ → (ℕ → List A) → List A
on_it None messages = []
on_it (Some n) messages = messages n

-- what is under way after an end sent this on its connection, or nothing
abbrev pub put_on : {A : Type 0} → Option ℕ → (ℕ → List A) → Option A → ℕ → List A
put_on None messages x = messages
put_on (Some n) messages None = messages
put_on (Some n) messages (Some x) = put messages n (messages n ++ x ∷ [])

abbrev pub is_unused : Stage → Bool
is_unused unused = true
is_unused _ = false

-- made by this side, and not accepted yet
abbrev pub is_made : Bool → Stage → Bool
is_made true (made true) = true
is_made false (made false) = true
is_made _ _ = false

-- the front frame of this connection comes to the receiver's end, where there is one
abbrev pub receives_frame : SessionLink → ℕ → Option Frame → SessionLink
receives_frame t n None = t
receives_frame t n (Some f) =
    record t {
      down = put t.down n (drop 1 (t.down n));
      receiver = if has t.at_receiver n then after_frame t.receiver f else t.receiver;
      at_receiver = after_message t.at_receiver n;
      delivered = with_taken (has t.at_receiver n && delivers t.receiver f) t.delivered f.item;
    }

-- the front acknowledgement of this connection comes to the sender's end, where there is one
abbrev pub receives_ack : Parameters → SessionLink → ℕ → Option ℕ → SessionLink
receives_ack p t n None = t
receives_ack p t n (Some label) =
    record t {
      up = put t.up n (drop 1 (t.up n));
      sender = if has t.at_sender n then after_ack p t.sender label else t.sender;
      at_sender = after_message t.at_sender n;
      acked = if has t.at_sender n && acknowledges t.sender label then t.acked + 1 else t.acked;
    }

abbrev pub connection_step : Parameters → SessionLink → ConnectionAct → SessionLink
connection_step p t (sender_makes n) =
    if is_unused (t.stage n)
    then record t { stage = put t.stage n (made true); at_sender = session_on n false }
    else t
connection_step p t (receiver_makes n) =
    if is_unused (t.stage n)
    then record t { stage = put t.stage n (made false); at_receiver = session_on n false }
    else t
connection_step p t (stranger_makes by_sender n) =
    if is_unused (t.stage n) then record t { stage = put t.stage n (made by_sender) } else t
connection_step p t (sender_accepts n) =
    if is_made false (t.stage n)
    then record t { stage = put t.stage n accepted; at_sender = session_on n true }
    else t
connection_step p t (receiver_accepts n) =
    if is_made true (t.stage n)
    then record t { stage = put t.stage n accepted; at_receiver = session_on n true }
    else t
connection_step p t (sender_leaves n) = record t { at_sender = after_end t.at_sender n }
connection_step p t (receiver_leaves n) = record t { at_receiver = after_end t.at_receiver n }
connection_step p t frame_sent =
    let sent = sent_now t.at_sender (frame_to_send t.sender) in
    record t {
      down = put_on t.at_sender.connection t.down sent;
      at_sender = turn_after t.at_sender sent;
    }
connection_step p t ack_sent =
    let sent = sent_now t.at_receiver (ack_to_send t.receiver) in
    record t {
      up = put_on t.at_receiver.connection t.up sent;
      at_receiver = turn_after t.at_receiver sent;
    }
connection_step p t (frame_comes n) = receives_frame t n (slice_get (t.down n) 0)
connection_step p t (ack_comes n) = receives_ack p t n (slice_get (t.up n) 0)
connection_step p t (frame_lost n place) =
    record t { down = put t.down n (without place (t.down n)) }
connection_step p t (ack_lost n place) = record t { up = put t.up n (without place (t.up n)) }
connection_step p t sender_closes = record t { sender = closed_sender t.sender }
connection_step p t receiver_closes = record t { receiver = closed_receiver t.receiver }

-- an act, or an offer to the sender's end
pub data LinkAct : Type 0 where
  item_offered : ℕ → LinkAct
  happens : ConnectionAct → LinkAct

abbrev pub link_step : Parameters → SessionLink → LinkAct → SessionLink
link_step p t (item_offered item) =
    record t {
      sender = offered_to t.sender item;
      offered = with_taken (accepts t.sender) t.offered item;
    }
link_step p t (happens act) = connection_step p t act

abbrev pub link_run : Parameters → SessionLink → List LinkAct → SessionLink
link_run p t [] = t
link_run p t (act ∷ acts) = link_run p (link_step p t act) acts

-- the line that the link is: what is under way counts on the connection of the end that it goes to
abbrev pub line_of : SessionLink → Line
line_of t =
    record {
      frames = on_it t.at_receiver.connection t.down;
      acks = on_it t.at_sender.connection t.up;
      sender = t.sender;
      receiver = t.receiver;
      offered = t.offered;
      acked = t.acked;
      delivered = t.delivered;
    }

-- 1 for the end that has the turn on this connection
abbrev pub turn_on : Session → ℕ → ℕ
turn_on s n = if s.turn && has s n then 1 else 0

-- the messages under way on this connection, and the ends that may send there
abbrev pub under_way : SessionLink → ℕ → ℕ
under_way t n =
    length (t.down n) + length (t.up n) + (turn_on t.at_sender n + turn_on t.at_receiver n)

-- an accepted connection has at most one of them, and any other none
abbrev pub most_on : Stage → ℕ
most_on unused = 0
most_on (made by_sender) = 0
most_on accepted = 1

abbrev pub InTurn : SessionLink → Type 0
InTurn t = (n : ℕ) → under_way t n ≤ most_on (t.stage n)

-- a new count of the link: nothing was delivered or acknowledged, and an item that the sender holds
-- counts as offered first
abbrev pub counted_anew : SessionLink → SessionLink
counted_anew t =
    record t { offered = held t.sender.state.item; acked = 0; delivered = [] }

-- nothing was ever sent
abbrev pub no_connection : SenderEnd → ReceiverEnd → SessionLink
no_connection sender receiver =
    record {
      down = λ n. [];
      up = λ n. [];
      stage = λ n. unused;
      sender = sender;
      at_sender = no_session;
      receiver = receiver;
      at_receiver = no_session;
      offered = held sender.state.item;
      acked = 0;
      delivered = [];
    }

-- an end restarted: its connection is gone with it, and whatever it is now, it has none
abbrev pub sender_restarted : SessionLink → SenderEnd → SessionLink
sender_restarted t sender = record t { sender = sender; at_sender = no_session }

abbrev pub receiver_restarted : SessionLink → ReceiverEnd → SessionLink
receiver_restarted t receiver = record t { receiver = receiver; at_receiver = no_session }
