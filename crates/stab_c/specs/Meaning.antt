-- What the structs mean that cross to C. Every bit pattern has a meaning: a label may be any
-- number, a flag is true at any value but 0, and an item counts only where its flag is true.
-- Source: this project's own.
use Rattle.std.specs.Prelude.{ℕ, ◌==◌, not, Bool, if◌then◌else◌, Option, Some, None}
use Rattle.stab_frames.specs.declared.frame.Frame.{Frame}
use Rattle.stab_frames.specs.Parameters.{Parameters}
use Rattle.stab_frames.specs.declared.params.ParamsFault.{ParamsFault}
use Rattle.stab_frames.specs.declared.params.ParamsFault.TheVariants.{CapacityOutOfRange}
use Rattle.stab_frames.specs.declared.params.ParamsFault.TheVariants.{LabelsTooFew, LabelsTooMany}
use Rattle.stab_c.specs.declared.line.LineFrame.{LineFrame}
use Rattle.stab_c.specs.declared.line.LinkParams.{LinkParams}
use Rattle.stab_c.specs.declared.sender.SenderHalf.{SenderHalf}
use Rattle.stab_c.specs.declared.receiver.ReceiverHalf.{ReceiverHalf}
use Rattle.stab_line.specs.Ends.{SenderEnd, ReceiverEnd}

-- a flag is true at any value but 0
abbrev pub is_set : ℕ → Bool
is_set flag = not (flag == 0)

-- what the check of the parameters returns
abbrev pub check_code : Option ParamsFault → ℕ
check_code None = 0
check_code (Some CapacityOutOfRange) = 1
check_code (Some LabelsTooFew) = 2
check_code (Some LabelsTooMany) = 3

abbrev pub parameters_of : LinkParams → Parameters
parameters_of p = record { capacity = p.capacity; labels = p.labels }

abbrev pub frame_of : LineFrame → Frame
frame_of f = record { label = f.label; item = f.item }

-- the frame as the library writes it
abbrev pub line_frame : Frame → LineFrame
line_frame f = record { item = f.item; label = f.label; unused = 0 }

-- what lies at the place for a frame after a call that may write one there
abbrev pub written_frame : LineFrame → Option Frame → LineFrame
written_frame before None = before
written_frame before (Some f) = line_frame f

-- what lies at the place for a number after a call that may write one there
abbrev pub written : ℕ → Option ℕ → ℕ
written before None = before
written before (Some n) = n

abbrev pub sender_end : SenderHalf → SenderEnd
sender_end s =
    record {
      state = record { label = s.label; item = if is_set s.holding then Some s.item else None };
      closed = is_set s.closed;
    }

abbrev pub receiver_end : ReceiverHalf → ReceiverEnd
receiver_end r = record { label = r.label; closed = is_set r.closed }
