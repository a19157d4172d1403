-- A reading round of a link of capacity c: a round in which c messages are taken off a queue before
-- one is sent there. An item is offered, c frames are taken, a frame is sent, and one is taken; c
-- acknowledgements are taken, one is sent, and one is taken. A queue has c entries at most, so what
-- was queued as the taking began is read by then; where nothing is queued, taking changes nothing,
-- and counts. Anything else may happen between. A loss between a message that is sent and the one
-- that is taken begins at the sending anew.
-- Example: with c = 1, an offer, `recv_frame`, `send_frame`, `recv_frame`, `recv_ack`, `send_ack`
-- and `recv_ack` are one reading round. Without the first `recv_frame` they are none.
-- Source: this project's own.
use Rattle.std.specs.Prelude.{ℕ, zero, suc, ◌+◌, List, [], ◌∷◌, map, false}
use Rattle.stab_core.specs.declared.act.LinkAct.{LinkAct}
use Rattle.stab_core.specs.declared.act.LinkAct.TheVariants as act
use Rattle.stab_core.specs.declared.event.Event.{Event}
use Rattle.stab_rounds.specs.Rounds.{act_of}

-- what a reading round waits for: an offer; the frames that are still to be taken, whose number
-- `frames` has, and then one that is sent; that one; the acknowledgements that are still to be
-- taken, whose number `acks` has, and then one that is sent; that one
pub data Reads : Type 0 where
  offer : Reads
  frames : ℕ → Reads
  frame : Reads
  acks : ℕ → Reads
  ack : Reads

-- what it waits for after an act, with this capacity
abbrev pub reads_after : ℕ → Reads → LinkAct → Reads
reads_after c offer act.Offer = frames c
reads_after c (frames (suc left)) (act.RecvFrame false) = frames left
reads_after c (frames zero) act.SendFrame = frame
reads_after c frame (act.RecvFrame false) = acks c
reads_after c frame (act.LoseFrame place) = frames 0
reads_after c (acks (suc left)) (act.RecvAck false) = acks left
reads_after c (acks zero) act.SendAck = ack
reads_after c ack (act.RecvAck false) = offer
reads_after c ack (act.LoseAck place) = acks 0
reads_after c r a = r

-- the last acknowledgement that is taken completes it
abbrev pub read_by : Reads → LinkAct → ℕ
read_by ack (act.RecvAck false) = 1
read_by r a = 0

-- the reading rounds that these acts complete, where this is awaited first
abbrev pub reading_from : ℕ → Reads → List LinkAct → ℕ
reading_from c r [] = 0
reading_from c r (a ∷ acts) = read_by r a + reading_from c (reads_after c r a) acts

-- the reading rounds among these events, one after the other
abbrev pub reading_rounds : ℕ → List Event → ℕ
reading_rounds c events = reading_from c offer (map act_of events)
