-- The event of an act: an act is an event whose offer names no item.
-- Source: this project's own.
use Rattle.std.specs.Prelude.{ℕ, Option, Some, option_map}
use Rattle.stab_core.specs.declared.act.LinkAct.{LinkAct}
use Rattle.stab_core.specs.declared.act.LinkAct.TheVariants.{Offer, SendFrame, RecvFrame, SendAck}
use Rattle.stab_core.specs.declared.act.LinkAct.TheVariants.{RecvAck, LoseFrame, LoseAck, Close}
use Rattle.stab_core.specs.declared.event.Event.{Event}
use Rattle.stab_core.specs.declared.event.Event.TheVariants as event

-- the event of an act; an offer is of this item, and no event where there is none
abbrev pub event_of : LinkAct → Option ℕ → Option Event
event_of Offer item = option_map event.Offer item
event_of SendFrame item = Some event.SendFrame
event_of (RecvFrame keep) item = Some (event.RecvFrame keep)
event_of SendAck item = Some event.SendAck
event_of (RecvAck keep) item = Some (event.RecvAck keep)
event_of (LoseFrame place) item = Some (event.LoseFrame place)
event_of (LoseAck place) item = Some (event.LoseAck place)
event_of Close item = Some event.Close
