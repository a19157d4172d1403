-- Starts: what a JSON value means as a frame, and as the start of a link.
-- Source: this project's profile. The capacity bounds a start where a link begins, not here.
use Rattle.std.specs.Prelude.{codes, Bool, ◌||◌, Option, Some, is_some}
use Rattle.stab_frames.specs.declared.frame.Frame.{Frame}
use Rattle.stab_core.specs.declared.start.Start.{Start}
use Rattle.serde_json.specs.Data.{Data}
use Rattle.serde_json.specs.Find.{get}
use Rattle.stab_json.specs.Values.{◌>>=◌, label, item_number, pair, list_or_absent}

-- a frame: a list of a label and an item
abbrev pub frame : Data → Option Frame
frame d = do
  parts ← pair d
  its_label ← label parts.0
  its_item ← item_number parts.1
  Some (record { label = its_label; item = its_item })

-- a start: an object with the two labels, and with the frames and acknowledgements, the front
-- first, where it names any
abbrev pub start : Data → Option Start
start d = do
  its_frames ← list_or_absent frame (get (codes "frames") d)
  its_acks ← list_or_absent label (get (codes "acks") d)
  its_send_label ← get (codes "send") d >>= label
  its_recv_label ← get (codes "recv") d >>= label
  Some (record {
    frames = its_frames;
    acks = its_acks;
    send_label = its_send_label;
    recv_label = its_recv_label;
  })

-- a list of frames or of acknowledgements is named: a start without either takes no memory
abbrev pub names_a_list : Data → Bool
names_a_list d = is_some (get (codes "frames") d) || is_some (get (codes "acks") d)
