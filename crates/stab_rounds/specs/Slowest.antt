-- The slowest rounds: these acknowledge an item only each 2c + 1 of them. Both queues are full of
-- one label at the start, for which nobody waits, and they are kept full: after a frame is taken
-- one more is sent, and so after an acknowledgement.
-- Source: this project's own.
use Rattle.std.specs.Prelude.{ℕ, zero, suc, ◌+◌, ◌*◌, List, [], ◌∷◌, replicate, false}
use Rattle.stab_frames.specs.Parameters.{Parameters}
use Rattle.stab_core.specs.declared.event.Event.{Event}
use Rattle.stab_core.specs.declared.event.Event.TheVariants.{Offer, SendFrame, RecvFrame}
use Rattle.stab_core.specs.declared.event.Event.TheVariants.{SendAck, RecvAck}
use Rattle.stab_core.specs.declared.start.Start.{Start}

-- a link of this capacity with the fewest labels that are allowed
abbrev pub fewest_labels_of : ℕ → Parameters
fewest_labels_of c = record { capacity = c; labels = 2 * c + 2 }

abbrev pub slow_start : ℕ → Start
slow_start c =
    record {
      frames = replicate c (record { label = 1; item = 99 });
      acks = replicate c 1;
      send_label = 0;
      recv_label = 1;
    }

-- `rounds` of these rounds, which offer this item, the next one, and so on
abbrev pub slow_rounds : ℕ → ℕ → List Event
slow_rounds item zero = []
slow_rounds item (suc rounds) =
    Offer item ∷ SendFrame ∷ RecvFrame false ∷ SendFrame ∷ SendAck ∷ RecvAck false ∷ SendAck
    ∷ slow_rounds (item + 1) rounds
