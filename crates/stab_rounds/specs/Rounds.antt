-- A round of a link: an item is offered, a frame is sent, a frame is taken, an acknowledgement is
-- sent, and an acknowledgement is taken, in this order. Anything else may happen between, and an
-- offer to a sender that is not idle counts as well, although it changes nothing. But where a frame
-- is lost after one was sent and before one was taken, the round goes on from the sending of a
-- frame; and so with acknowledgements. A message that is kept at the front was not taken.
-- Example: in the worst start's events no round is complete. An offer, `send_frame`, `recv_frame`,
-- `send_ack` and `recv_ack` are one round; with a `lose_frame` after `send_frame` they are none.
-- Source: this project's own.
use Rattle.std.specs.Prelude.{◌≡◌, ◌⊎◌, ℕ, ◌+◌, ◌≤◌, List, [], ◌∷◌, length, map, false}
use Rattle.stab_frames.specs.Parameters.{Parameters}
use Rattle.stab_core.specs.declared.act.LinkAct.{LinkAct}
use Rattle.stab_core.specs.declared.act.LinkAct.TheVariants as act
use Rattle.stab_core.specs.declared.event.Event.{Event}
use Rattle.stab_core.specs.declared.event.Event.TheVariants as event
use Rattle.stab_core.specs.LinkState.{LinkState}
use Rattle.stab_rounds.specs.declared.round.Awaited.{Awaited}
use Rattle.stab_rounds.specs.declared.round.Awaited.TheVariants as next

-- the act of an event, which names no item
abbrev pub act_of : Event → LinkAct
act_of (event.Offer item) = act.Offer
act_of event.SendFrame = act.SendFrame
act_of (event.RecvFrame keep) = act.RecvFrame keep
act_of event.SendAck = act.SendAck
act_of (event.RecvAck keep) = act.RecvAck keep
act_of (event.LoseFrame place) = act.LoseFrame place
act_of (event.LoseAck place) = act.LoseAck place
act_of event.Close = act.Close

-- what a round waits for after an act: a loss begins the half that it disturbs anew
abbrev pub awaited_after : Awaited → LinkAct → Awaited
awaited_after next.Offer act.Offer = next.SendFrame
awaited_after next.SendFrame act.SendFrame = next.RecvFrame
awaited_after next.RecvFrame (act.RecvFrame false) = next.SendAck
awaited_after next.RecvFrame (act.LoseFrame place) = next.SendFrame
awaited_after next.SendAck act.SendAck = next.RecvAck
awaited_after next.RecvAck (act.RecvAck false) = next.Offer
awaited_after next.RecvAck (act.LoseAck place) = next.SendAck
awaited_after w a = w

-- an acknowledgement that is taken completes a round that waits for it
abbrev pub completed_by : Awaited → LinkAct → ℕ
completed_by next.RecvAck (act.RecvAck false) = 1
completed_by w a = 0

-- the rounds that these acts complete, where this is awaited first
abbrev pub rounds_from : Awaited → List LinkAct → ℕ
rounds_from w [] = 0
rounds_from w (a ∷ acts) = completed_by w a + rounds_from (awaited_after w a) acts

-- the rounds among these events, one after the other
abbrev pub rounds_of : List Event → ℕ
rounds_of events = rounds_from next.Offer (map act_of events)

-- neither queue has more than its capacity, and at most one item waits; the labels may be any
pub record IsWithin (p : Parameters) (s : LinkState) : Type 0 where
  pub frames : length s.frames ≤ p.capacity
  pub acks : length s.acks ≤ p.capacity
  pub waits : (length s.offered ≡ s.acked) ⊎ (length s.offered ≡ s.acked + 1)
