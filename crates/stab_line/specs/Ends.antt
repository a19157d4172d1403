-- The two ends of a link, each by itself: a sender or a receiver of the stop-and-wait link, that
-- may be closed. These are the steps of an end, and what it sends. A closed end never changes.
-- Source: the stop-and-wait data link of Dolev, Self-Stabilization, MIT Press 2000; that each end
-- closes by itself is this project's own.
use Rattle.std.specs.Prelude.{ℕ, ◌==◌, ◌&&◌, not, Bool, true, false, if◌then◌else◌}
use Rattle.std.specs.Prelude.{Option, Some, None, is_none, option_map}
use Rattle.stab_frames.specs.declared.frame.Frame.{Frame}
use Rattle.stab_frames.specs.Parameters.{Parameters, next}
use Rattle.stab_core.specs.Halves.{SenderState, waits_for}

pub record SenderEnd : Type 0 where
  pub state : SenderState
  pub closed : Bool

pub record ReceiverEnd : Type 0 where
  -- the label that it took last
  pub label : ℕ
  pub closed : Bool

-- an open and idle sender with this label
abbrev pub new_sender : ℕ → SenderEnd
new_sender label = record { state = record { label = label; item = None }; closed = false }

-- an open receiver that remembers this label
abbrev pub new_receiver : ℕ → ReceiverEnd
new_receiver label = record { label = label; closed = false }

-- the sender takes an item that it is offered
abbrev pub accepts : SenderEnd → Bool
accepts s = not s.closed && is_none s.state.item

-- the sender after an offer: it holds the item that it takes
abbrev pub offered_to : SenderEnd → ℕ → SenderEnd
offered_to s item =
    if accepts s
    then record { state = record { label = s.state.label; item = Some item }; closed = false }
    else s

-- the frame that the sender sends now: its item under its label
abbrev pub frame_to_send : SenderEnd → Option Frame
frame_to_send s =
    if s.closed then None
    else option_map (λ item. record { label = s.state.label; item = item }) s.state.item

-- this acknowledgement is the one that the sender waits for
abbrev pub acknowledges : SenderEnd → ℕ → Bool
acknowledges s label = not s.closed && waits_for s.state label

-- the sender after an acknowledgement: idle with the next label, if it waited for this one
abbrev pub after_ack : Parameters → SenderEnd → ℕ → SenderEnd
after_ack p s label =
    if acknowledges s label
    then record { state = record { label = next p s.state.label; item = None }; closed = false }
    else s

abbrev pub closed_sender : SenderEnd → SenderEnd
closed_sender s = record { state = s.state; closed = true }

-- the receiver delivers the item of this frame: it is open, and does not remember the frame's label
abbrev pub delivers : ReceiverEnd → Frame → Bool
delivers r frame = not r.closed && not (frame.label == r.label)

-- the receiver after a frame: it remembers the label of the one that it delivers
abbrev pub after_frame : ReceiverEnd → Frame → ReceiverEnd
after_frame r frame = if delivers r frame then new_receiver frame.label else r

-- the label that the receiver acknowledges now
abbrev pub ack_to_send : ReceiverEnd → Option ℕ
ack_to_send r = if r.closed then None else Some r.label

abbrev pub closed_receiver : ReceiverEnd → ReceiverEnd
closed_receiver r = record { label = r.label; closed = true }
