-- A line with one end of a link at each side: what is under way each way, the front first,
-- the two ends, and lists of what they did. The line is first in first out and holds at most `c`
-- messages each way; it may lose any message and repeat the front, and it may be full of anything
-- when a count begins. Each end does its own steps and closes by itself.
-- Source: this project's own.
use Rattle.std.specs.Prelude.{◌≡◌, ℕ, ◌+◌, Bool, false, if◌then◌else◌, List, [], ◌∷◌, ◌++◌}
use Rattle.std.specs.Prelude.{slice_get, Option, Some, None}
use Rattle.stab_frames.specs.declared.frame.Frame.{Frame}
use Rattle.stab_frames.specs.Parameters.{Parameters}
use Rattle.stab_frames.specs.Queue.{without}
use Rattle.stab_core.specs.declared.event.Event.{Event}
use Rattle.stab_core.specs.declared.start.Start.{Start}
use Rattle.stab_core.specs.LinkState.{LinkState, has_room}
use Rattle.stab_core.specs.Replay.{replay}
use Rattle.stab_core.specs.Step.{after_front}
use Rattle.stab_line.specs.Ends.{SenderEnd, ReceiverEnd, accepts, offered_to, frame_to_send}
use Rattle.stab_line.specs.Ends.{acknowledges, after_ack, closed_sender, delivers, after_frame}
use Rattle.stab_line.specs.Ends.{ack_to_send, closed_receiver}

pub record Line : Type 0 where
  pub frames : List Frame
  pub acks : List ℕ
  pub sender : SenderEnd
  pub receiver : ReceiverEnd
  -- the items that the sender took, and how many of them were acknowledged
  pub offered : List ℕ
  pub acked : ℕ
  pub delivered : List ℕ

-- what happens at an end or on the line: each act of an end is one call of the library
pub data LineAct : Type 0 where
  offer_item : ℕ → LineAct
  frame_sent : LineAct
  -- the front frame comes to the receiver, and stays on the line as well where it is repeated
  frame_comes : Bool → LineAct
  ack_sent : LineAct
  -- the front acknowledgement comes to the sender, and stays as well where it is repeated
  ack_comes : Bool → LineAct
  -- the message at a place is lost, 0 being the front
  frame_lost : ℕ → LineAct
  ack_lost : ℕ → LineAct
  sender_closes : LineAct
  receiver_closes : LineAct

-- the messages on the line after an end sent one, or none: what has no room is lost
abbrev pub after_sending : {A : Type 0} → Parameters → List A → Option A → List A
after_sending p messages None = messages
after_sending p messages (Some x) = if has_room p messages then messages ++ x ∷ [] else messages

-- the items of a list, with one more where it was taken
abbrev pub with_taken : Bool → List ℕ → ℕ → List ℕ
with_taken taken items item = if taken then items ++ item ∷ [] else items

-- the front frame comes, where there is one
abbrev pub receives_frame : Bool → Line → Option Frame → Line
receives_frame repeated l None = l
receives_frame repeated l (Some f) =
    record l {
      frames = after_front repeated l.frames;
      receiver = after_frame l.receiver f;
      delivered = with_taken (delivers l.receiver f) l.delivered f.item;
    }

-- the front acknowledgement comes, where there is one
abbrev pub receives_ack : Parameters → Bool → Line → Option ℕ → Line
receives_ack p repeated l None = l
receives_ack p repeated l (Some label) =
    record l {
      acks = after_front repeated l.acks;
      sender = after_ack p l.sender label;
      acked = if acknowledges l.sender label then l.acked + 1 else l.acked;
    }

abbrev pub line_step : Parameters → Line → LineAct → Line
line_step p l (offer_item item) =
    record l {
      sender = offered_to l.sender item;
      offered = with_taken (accepts l.sender) l.offered item;
    }
line_step p l frame_sent = record l { frames = after_sending p l.frames (frame_to_send l.sender) }
line_step p l (frame_comes repeated) = receives_frame repeated l (slice_get l.frames 0)
line_step p l ack_sent = record l { acks = after_sending p l.acks (ack_to_send l.receiver) }
line_step p l (ack_comes repeated) = receives_ack p repeated l (slice_get l.acks 0)
line_step p l (frame_lost place) = record l { frames = without place l.frames }
line_step p l (ack_lost place) = record l { acks = without place l.acks }
line_step p l sender_closes = record l { sender = closed_sender l.sender }
line_step p l receiver_closes = record l { receiver = closed_receiver l.receiver }

abbrev pub line_run : Parameters → Line → List LineAct → Line
line_run p l [] = l
line_run p l (act ∷ acts) = line_run p (line_step p l act) acts

-- the item that a sender holds
abbrev pub held : Option ℕ → List ℕ
held None = []
held (Some item) = item ∷ []

-- a new count of a line: nothing was delivered or acknowledged, and an item that the sender holds
-- counts as offered first
abbrev pub new_count : List Frame → List ℕ → SenderEnd → ReceiverEnd → Line
new_count frames acks sender receiver =
    record {
      frames = frames;
      acks = acks;
      sender = sender;
      receiver = receiver;
      offered = held sender.state.item;
      acked = 0;
      delivered = [];
    }

-- the start of the link that such a line is: its two ends may have any labels
abbrev pub start_of : List Frame → List ℕ → SenderEnd → ReceiverEnd → Start
start_of frames acks sender receiver =
    record {
      frames = frames;
      acks = acks;
      send_label = sender.state.label;
      recv_label = receiver.label;
    }

-- the open link that the line is
abbrev pub link_of : Line → LinkState
link_of l =
    record {
      frames = l.frames;
      acks = l.acks;
      send_label = l.sender.state.label;
      offered = l.offered;
      acked = l.acked;
      recv_label = l.receiver.label;
      delivered = l.delivered;
      closed = false;
    }

-- some events lead the link from the one state to the other
abbrev pub IsReplay : Parameters → LinkState → LinkState → Type 0
IsReplay p before after = (events : List Event) × (replay p before events ≡ after)
