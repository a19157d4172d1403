-- The step: what one event makes of a link, and the effect that it reports. An event that does not
-- apply changes nothing.
-- Source: this project's profile of the stop-and-wait link; losses and repetitions are events like
-- any other.
use Rattle.std.specs.Prelude.{ℕ, ◌+◌, ◌==◌, ◌&&◌, Bool, true, List, [], ◌∷◌, ◌++◌, length, drop}
use Rattle.std.specs.Prelude.{slice_get, nat_lt, if◌then◌else◌, Option, Some, None}
use Rattle.stab_frames.specs.declared.frame.Frame.{Frame}
use Rattle.stab_frames.specs.Parameters.{Parameters, next}
use Rattle.stab_frames.specs.Queue.{without}
use Rattle.stab_core.specs.declared.event.Event.{Event}
use Rattle.stab_core.specs.declared.event.Event.TheVariants.{Offer, SendFrame, RecvFrame, SendAck}
use Rattle.stab_core.specs.declared.event.Event.TheVariants.{RecvAck, LoseFrame, LoseAck, Close}
use Rattle.stab_core.specs.declared.event.Effect.{Effect}
use Rattle.stab_core.specs.declared.event.Effect.TheVariants.{Nothing, Held, Sent, Fresh, Old}
use Rattle.stab_core.specs.declared.event.Effect.TheVariants.{Acked, Ignored, Lost, Closed}
use Rattle.stab_core.specs.LinkState.{LinkState, is_idle, is_holding, current_frame, has_room}

-- a queue after its front was received: a kept front stays
abbrev pub after_front : {A : Type 0} → Bool → List A → List A
after_front keep entries = if keep then entries else drop 1 entries

-- the receiver takes a frame: it remembers the label and delivers the item
abbrev pub takes : LinkState → Frame → LinkState
takes s f = record s { recv_label = f.label; delivered = s.delivered ++ f.item ∷ [] }

-- the receiver sees a frame: it takes it exactly if the label is not the one that it remembers
abbrev pub sees_frame : LinkState → Frame → LinkState
sees_frame s f = if f.label == s.recv_label then s else takes s f

-- the sender goes on to the next label: its item counts as acknowledged
abbrev pub goes_on : Parameters → LinkState → LinkState
goes_on p s = record s { acked = s.acked + 1; send_label = next p s.send_label }

-- the sender sees an acknowledgement: it goes on exactly if it waits for this one
abbrev pub sees_ack : Parameters → LinkState → ℕ → LinkState
sees_ack p s label = if is_holding s && (label == s.send_label) then goes_on p s else s

-- the front frame is received, where there is one
abbrev pub receives_frame : Bool → LinkState → Option Frame → LinkState
receives_frame keep s None = s
receives_frame keep s (Some f) = sees_frame (record s { frames = after_front keep s.frames }) f

-- the front acknowledgement is received, where there is one
abbrev pub receives_ack : Parameters → Bool → LinkState → Option ℕ → LinkState
receives_ack p keep s None = s
receives_ack p keep s (Some label) = sees_ack p (record s { acks = after_front keep s.acks }) label

-- the step of an open link
abbrev pub open_step : Parameters → LinkState → Event → LinkState
open_step p s (Offer item) = if is_idle s then record s { offered = s.offered ++ item ∷ [] } else s
open_step p s SendFrame =
    if is_holding s && has_room p s.frames
    then record s { frames = s.frames ++ current_frame s ∷ [] }
    else s
open_step p s (RecvFrame keep) = receives_frame keep s (slice_get s.frames 0)
open_step p s SendAck =
    if has_room p s.acks then record s { acks = s.acks ++ s.recv_label ∷ [] } else s
open_step p s (RecvAck keep) = receives_ack p keep s (slice_get s.acks 0)
open_step p s (LoseFrame place) = record s { frames = without place s.frames }
open_step p s (LoseAck place) = record s { acks = without place s.acks }
open_step p s Close = record s { closed = true }

-- the step: a closed link never changes
abbrev pub step : Parameters → LinkState → Event → LinkState
step p s e = if s.closed then s else open_step p s e

-- the effect of a frame that is received
abbrev pub frame_effect : LinkState → Option Frame → Effect
frame_effect s None = Nothing
frame_effect s (Some f) = if f.label == s.recv_label then Old else Fresh f.item

-- the effect of an acknowledgement that is received
abbrev pub ack_effect : LinkState → Option ℕ → Effect
ack_effect s None = Nothing
ack_effect s (Some label) = if is_holding s && (label == s.send_label) then Acked else Ignored

-- the effect on an open link
abbrev pub open_effect : Parameters → LinkState → Event → Effect
open_effect p s (Offer item) = if is_idle s then Held else Nothing
open_effect p s SendFrame =
    if is_holding s then (if has_room p s.frames then Sent else Lost) else Nothing
open_effect p s (RecvFrame keep) = frame_effect s (slice_get s.frames 0)
open_effect p s SendAck = if has_room p s.acks then Sent else Lost
open_effect p s (RecvAck keep) = ack_effect s (slice_get s.acks 0)
open_effect p s (LoseFrame place) = if nat_lt place (length s.frames) then Lost else Nothing
open_effect p s (LoseAck place) = if nat_lt place (length s.acks) then Lost else Nothing
open_effect p s Close = Closed

-- the effect: on a closed link every event does nothing
abbrev pub effect : Parameters → LinkState → Event → Effect
effect p s e = if s.closed then Nothing else open_effect p s e
