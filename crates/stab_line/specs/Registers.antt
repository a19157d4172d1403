-- A link whose line is two registers: places of some store that hold one word each, such as two
-- keys of a database. Each get and each set is one step, at which the register shows what was set
-- last, or at first whatever lay there. The sender's end sets the one and gets the other, and the
-- receiver's end the other way round. Between a get and the call that is given what it showed, an
-- end does nothing else; any steps of the other end can come between.
-- Source: this project's own.
use Rattle.std.specs.Prelude.{ℕ, ◌+◌, Bool, true, false, if◌then◌else◌, List, [], ◌∷◌, Option}
use Rattle.std.specs.Prelude.{Some, None}
use Rattle.stab_frames.specs.declared.frame.Frame.{Frame}
use Rattle.stab_frames.specs.Parameters.{Parameters}
use Rattle.stab_line.specs.Ends.{SenderEnd, ReceiverEnd, accepts, offered_to, frame_to_send}
use Rattle.stab_line.specs.Ends.{acknowledges, after_ack, closed_sender, delivers, after_frame}
use Rattle.stab_line.specs.Ends.{ack_to_send, closed_receiver}
use Rattle.stab_line.specs.Line.{Line, with_taken, held}

pub record Registers : Type 0 where
  -- what the two registers show: a frame and an acknowledgement, or nothing
  pub frame : Option Frame
  pub ack : Option ℕ
  pub sender : SenderEnd
  pub receiver : ReceiverEnd
  -- what an end has got and was not given yet
  pub ack_got : Option ℕ
  pub frame_got : Option Frame
  -- the items that the sender took, how many were acknowledged, and the items that were delivered
  pub offered : List ℕ
  pub acked : ℕ
  pub delivered : List ℕ

-- what happens at an end or in the store
pub data RegisterAct : Type 0 where
  item_offered : ℕ → RegisterAct
  -- the sender's end sets its register to the frame to send now, where there is one
  sets_frame : RegisterAct
  -- the receiver's end gets that register, and then its receiver is given the frame, if it showed
  -- one
  gets_frame : RegisterAct
  is_given_frame : RegisterAct
  -- the receiver's end sets its register to the label to acknowledge now, where there is one
  sets_ack : RegisterAct
  -- the sender's end gets that register, and then its sender is given the label, if it showed one
  gets_ack : RegisterAct
  is_given_ack : RegisterAct
  -- somebody empties a register
  frame_deleted : RegisterAct
  ack_deleted : RegisterAct
  sender_closes : RegisterAct
  receiver_closes : RegisterAct

abbrev pub is_offered : RegisterAct → Bool
is_offered (item_offered item) = true
is_offered _ = false

-- what a register shows after it was set to this, or not at all
abbrev pub set_to : {A : Type 0} → Option A → Option A → Option A
set_to shown None = shown
set_to shown (Some x) = Some x

-- the receiver after it was given what its end has got, or nothing
abbrev pub given_frame : Registers → Option Frame → Registers
given_frame r None = record r { frame_got = None }
given_frame r (Some f) =
    record r {
      frame_got = None;
      receiver = after_frame r.receiver f;
      delivered = with_taken (delivers r.receiver f) r.delivered f.item;
    }

abbrev pub given_ack : Parameters → Registers → Option ℕ → Registers
given_ack p r None = record r { ack_got = None }
given_ack p r (Some label) =
    record r {
      ack_got = None;
      sender = after_ack p r.sender label;
      acked = if acknowledges r.sender label then r.acked + 1 else r.acked;
    }

-- a step of an end that is to do something else first is none
abbrev pub where_free : {A : Type 0} → Option A → Registers → Registers → Registers
where_free None r next = next
where_free (Some x) r next = r

abbrev pub register_step : Parameters → Registers → RegisterAct → Registers
register_step p r (item_offered item) =
    where_free r.ack_got r
    (record r {
      sender = offered_to r.sender item;
      offered = with_taken (accepts r.sender) r.offered item;
    })
register_step p r sets_frame =
    where_free r.ack_got r (record r { frame = set_to r.frame (frame_to_send r.sender) })
register_step p r gets_frame = where_free r.frame_got r (record r { frame_got = r.frame })
register_step p r is_given_frame = given_frame r r.frame_got
register_step p r sets_ack =
    where_free r.frame_got r (record r { ack = set_to r.ack (ack_to_send r.receiver) })
register_step p r gets_ack = where_free r.ack_got r (record r { ack_got = r.ack })
register_step p r is_given_ack = given_ack p r r.ack_got
register_step p r frame_deleted = record r { frame = None }
register_step p r ack_deleted = record r { ack = None }
register_step p r sender_closes =
    where_free r.ack_got r (record r { sender = closed_sender r.sender })
register_step p r receiver_closes =
    where_free r.frame_got r (record r { receiver = closed_receiver r.receiver })

abbrev pub register_run : Parameters → Registers → List RegisterAct → Registers
register_run p r [] = r
register_run p r (act ∷ acts) = register_run p (register_step p r act) acts

-- the messages that a register shows
abbrev pub shown : {A : Type 0} → Option A → List A
shown None = []
shown (Some x) = x ∷ []

-- both ends have been given what they got
abbrev pub all_given : Parameters → Registers → Registers
all_given p r = given_ack p (given_frame r r.frame_got) r.ack_got

abbrev pub line_now : Registers → Line
line_now r =
    record {
      frames = shown r.frame;
      acks = shown r.ack;
      sender = r.sender;
      receiver = r.receiver;
      offered = r.offered;
      acked = r.acked;
      delivered = r.delivered;
    }

-- the line that the registers are: what an end has got counts as given
abbrev pub line_of : Parameters → Registers → Line
line_of p r = line_now (all_given p r)

-- a new count: the registers show anything or nothing, an item that the sender holds counts as
-- offered first, and neither end has got anything that it was not given
abbrev pub new_registers : Option Frame → Option ℕ → SenderEnd → ReceiverEnd → Registers
new_registers frame ack sender receiver =
    record {
      frame = frame;
      ack = ack;
      sender = sender;
      receiver = receiver;
      ack_got = None;
      frame_got = None;
      offered = held sender.state.item;
      acked = 0;
      delivered = [];
    }
