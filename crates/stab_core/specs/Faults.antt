-- What a fault makes of a link: what is in it becomes anything that fits, or one of its ends begins
-- anew.
-- Example: A link whose sender holds 12 under its label 2 is struck by a start with the sender's
-- label 0: it then sends 12 under the label 0, whatever was in its queues is gone, and what the
-- start has is in them.
-- Source: this project's own.
use Rattle.std.specs.Prelude.{[]}
use Rattle.stab_core.specs.declared.start.Start.{Start}
use Rattle.stab_core.specs.LinkState.{LinkState}

-- a link whose queues and labels become these; what its sender was offered stays, and so do the
-- item that it holds and what its receiver delivered
abbrev pub struck : Start → LinkState → LinkState
struck start s =
    record s {
      frames = start.frames;
      acks = start.acks;
      send_label = start.send_label;
      recv_label = start.recv_label;
    }

-- a link whose sender begins anew: it was offered nothing, and holds nothing
abbrev pub sender_anew : LinkState → LinkState
sender_anew s = record s { offered = []; acked = 0 }

-- a link whose receiver begins anew: it delivered nothing
abbrev pub receiver_anew : LinkState → LinkState
receiver_anew s = record s { delivered = [] }
