-- What a page writes for an event and for a frame of the start, as records of numbers, and what
-- they mean.
-- Example: The kind 0 with the value 7 is the offer of the item 7; the kind 8 with the value 1 is
-- the loss of the acknowledgement at place 1.
-- Source: this project's own.
use Rattle.std.specs.Prelude.{ℕ, ◌==◌, ◌%◌, List, map, true, false, if◌then◌else◌}
use Rattle.stab_frames.specs.declared.frame.Frame.{Frame}
use Rattle.stab_core.specs.declared.event.Event.{Event}
use Rattle.stab_core.specs.declared.event.Event.TheVariants.{Offer, SendFrame, RecvFrame, SendAck}
use Rattle.stab_core.specs.declared.event.Event.TheVariants.{RecvAck, LoseFrame, LoseAck, Close}
use Rattle.stab_core.specs.declared.start.Start.{Start}
use Rattle.stab_page.specs.declared.code.EventCode.{EventCode}
use Rattle.stab_page.specs.declared.code.FrameCode.{FrameCode}

-- the event of a kind, with the item that is offered, or the place of what is lost
abbrev pub event_of_kind : ℕ → ℕ → Event
event_of_kind kind value =
    if kind == 0 then Offer value
    else (if kind == 1 then SendFrame
    else (if kind == 2 then RecvFrame false
    else (if kind == 3 then RecvFrame true
    else (if kind == 4 then SendAck
    else (if kind == 5 then RecvAck false
    else (if kind == 6 then RecvAck true
    else (if kind == 7 then LoseFrame (value % 65536)
    else (if kind == 8 then LoseAck (value % 65536)
    else Close))))))))

abbrev pub event_of : EventCode → Event
event_of code = event_of_kind code.kind code.value

abbrev pub frame_of : FrameCode → Frame
frame_of code = record { label = code.label; item = code.item }

-- the start with these frames, acknowledgements and labels
abbrev pub start_of : List FrameCode → List ℕ → ℕ → ℕ → Start
start_of frames acks send_label recv_label =
    record {
      frames = map frame_of frames;
      acks = acks;
      send_label = send_label;
      recv_label = recv_label;
    }
