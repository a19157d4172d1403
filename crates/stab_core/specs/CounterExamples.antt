-- Why the link is as it is: event lists that break its laws where one rule of it is left out, and
-- one for each capacity that reaches the bounds where none is. Where a rule is left out the
-- capacity is 1, for which four labels are the fewest lawful ones.
-- Source: this project's own.
use Rattle.std.specs.Prelude.{ℕ, zero, suc, ◌+◌, ◌-◌, ◌*◌, Bool, true, false, List, [], ◌∷◌, ◌++◌}
use Rattle.std.specs.Prelude.{slice_get, if◌then◌else◌, Option, Some, None}
use Rattle.std.specs.List.{range_with_len}
use Rattle.stab_frames.specs.declared.frame.Frame.{Frame}
use Rattle.stab_frames.specs.Parameters.{Parameters}
use Rattle.stab_core.specs.declared.event.Event.{Event}
use Rattle.stab_core.specs.declared.event.Event.TheVariants.{Offer, SendFrame, RecvFrame, SendAck}
use Rattle.stab_core.specs.declared.event.Event.TheVariants.{RecvAck, LoseFrame}
use Rattle.stab_core.specs.declared.start.Start.{Start}
use Rattle.stab_core.specs.LinkState.{LinkState, is_holding}
use Rattle.stab_core.specs.Step.{step, after_front, takes, goes_on}

abbrev pub four_labels : Parameters
four_labels = record { capacity = 1; labels = 4 }

-- a front that is received and goes
abbrev pub take_frame : Event
take_frame = RecvFrame false

abbrev pub take_ack : Event
take_ack = RecvAck false

-- a front that is received and stays
abbrev pub keep_frame : Event
keep_frame = RecvFrame true

abbrev pub keep_ack : Event
keep_ack = RecvAck true

-- Two labels, which are not lawful. The start's frame and acknowledgement have the sender's label.
abbrev pub two_labels : Parameters
two_labels = record { capacity = 1; labels = 2 }

abbrev pub two_labels_start : Start
two_labels_start =
    record {
      frames = record { label = 0; item = 99 } ∷ [];
      acks = 0 ∷ [];
      send_label = 0;
      recv_label = 1;
    }

-- Each item is acknowledged by the answer to the frame before it, so 14 is acknowledged though its
-- only frame is lost.
abbrev pub two_labels_events : List Event
two_labels_events =
    Offer 10 ∷ take_ack ∷ SendAck ∷ take_frame
    ∷ Offer 11 ∷ SendFrame ∷ take_ack ∷ SendAck ∷ take_frame
    ∷ Offer 12 ∷ SendFrame ∷ take_ack ∷ SendAck ∷ take_frame
    ∷ Offer 13 ∷ SendFrame ∷ take_ack ∷ SendAck ∷ take_frame
    ∷ Offer 14 ∷ SendFrame ∷ LoseFrame 0 ∷ take_ack ∷ []

-- A sender that goes on at any acknowledgement, whatever its label.
abbrev pub goes_on_at_any : Parameters → LinkState → LinkState
goes_on_at_any p s = if is_holding s then goes_on p s else s

abbrev pub receives_any_ack : Parameters → Bool → LinkState → Option ℕ → LinkState
receives_any_ack p keep s None = s
receives_any_ack p keep s (Some label) =
    goes_on_at_any p (record s { acks = after_front keep s.acks })

-- the step of a link with this sender, and for the rest the step of the link
abbrev pub any_ack_step : Parameters → LinkState → Event → LinkState
any_ack_step p s (RecvAck keep) =
    if s.closed then s else receives_any_ack p keep s (slice_get s.acks 0)
any_ack_step p s e = step p s e

-- One acknowledgement of the start, kept each time, acknowledges four items, none of which was
-- sent.
abbrev pub any_ack_start : Start
any_ack_start = record { frames = []; acks = 0 ∷ []; send_label = 0; recv_label = 1 }

abbrev pub any_ack_events : List Event
any_ack_events =
    Offer 10 ∷ keep_ack ∷ Offer 11 ∷ keep_ack ∷ Offer 12 ∷ keep_ack ∷ Offer 13 ∷ keep_ack ∷ []

-- A receiver that takes every frame, also one whose label it remembers.
abbrev pub receives_any_frame : Bool → LinkState → Option Frame → LinkState
receives_any_frame keep s None = s
receives_any_frame keep s (Some f) = takes (record s { frames = after_front keep s.frames }) f

-- the step of a link with this receiver, and for the rest the step of the link
abbrev pub any_frame_step : Parameters → LinkState → Event → LinkState
any_frame_step p s (RecvFrame keep) =
    if s.closed then s else receives_any_frame keep s (slice_get s.frames 0)
any_frame_step p s e = step p s e

-- The frame of one item is received twice.
abbrev pub any_frame_start : Start
any_frame_start = record { frames = []; acks = []; send_label = 0; recv_label = 1 }

abbrev pub any_frame_events : List Event
any_frame_events = Offer 10 ∷ SendFrame ∷ keep_frame ∷ take_frame ∷ []

-- From here on no rule is left out, and the capacity c is any.

-- this many frames, whose labels and items count up from these
abbrev pub counted_frames : ℕ → ℕ → ℕ → List Frame
counted_frames label item zero = []
counted_frames label item (suc count) =
    record { label = label; item = item } ∷ counted_frames (label + 1) (item + 1) count

-- The worst start. The labels 0 to 2c come to the sender in the order in which it waits for them:
-- the acknowledgements have 0 to c - 1, the receiver remembers c, and the frames have c + 1 to 2c.
-- The frames' items, the strays, count up from this one.
abbrev pub worst_start : ℕ → ℕ → Start
worst_start c stray =
    record {
      frames = counted_frames (c + 1) stray c;
      acks = range_with_len 0 c;
      send_label = 0;
      recv_label = c;
    }

-- This many rounds, with items that count up from this one: an item is offered, and the next
-- acknowledgement of the start acknowledges it, though it was never sent.
abbrev pub acked_by_start : ℕ → ℕ → List Event
acked_by_start item zero = []
acked_by_start item (suc rounds) = Offer item ∷ take_ack ∷ acked_by_start (item + 1) rounds

-- This many rounds, with items that count up from this one: the label that the receiver remembers
-- acknowledges an item that was never sent, and then the receiver takes the next stray, which has
-- the label of the item after it.
abbrev pub acked_by_receiver : ℕ → ℕ → List Event
acked_by_receiver item zero = []
acked_by_receiver item (suc rounds) =
    SendAck ∷ Offer item ∷ take_ack ∷ take_frame ∷ acked_by_receiver (item + 1) rounds

-- The last stray's label acknowledges this item. Now no label of the start is left, and the item
-- after it is sent and delivered.
abbrev pub delivered_at_last : ℕ → List Event
delivered_at_last item =
    SendAck ∷ Offer item ∷ take_ack ∷ Offer (item + 1) ∷ SendFrame ∷ take_frame ∷ []

-- The worst events, with items that count up from this one: c items are acknowledged by the start,
-- the next c by labels that the receiver remembers, one more by the last of these labels, and the
-- item after them is the first that is delivered.
abbrev pub worst_events : ℕ → ℕ → List Event
worst_events c item =
    acked_by_start item c ++ acked_by_receiver (item + c) c ++ delivered_at_last (item + 2 * c)

-- One label too few for the argument of the link law: 2c labels, with any capacity c.
abbrev pub too_few_labels : ℕ → Parameters
too_few_labels c = record { capacity = c; labels = 2 * c }

-- The sender begins with 2c, which is none of its labels, and goes on with 0. The labels 2c and
-- then 0 to 2c - 1 come to it in the order in which it waits for them. The strays count up from
-- this one.
abbrev pub too_few_labels_start : ℕ → ℕ → Start
too_few_labels_start c stray =
    record {
      frames = counted_frames c stray c;
      acks = 2 * c ∷ range_with_len 0 (c - 1);
      send_label = 2 * c;
      recv_label = c - 1;
    }

-- The items 0 to 2c are acknowledged by the labels of the start, as in the worst events; but item 1
-- is sent too, in the place of the first stray. Its frame has the label 0 and comes last. Item 2c +
-- 1 has the label 0 again, and the answer to that frame acknowledges it.
abbrev pub too_few_labels_events : ℕ → ℕ → List Event
too_few_labels_events c item =
    (Offer item ∷ take_ack ∷ SendAck ∷ take_frame ∷ Offer (item + 1) ∷ SendFrame ∷ take_ack ∷ [])
    ++ acked_by_start (item + 2) (c - 1) ++ acked_by_receiver (item + c + 1) (c - 1)
    ++ SendAck ∷ Offer (item + 2 * c) ∷ take_ack ∷ take_frame
    ∷ SendAck ∷ Offer (item + 2 * c + 1) ∷ take_ack ∷ []
