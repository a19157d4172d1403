-- Events: what the words of a job mean as acts on a link, and what a JSON value means as an event.
-- Example: `{"send": 0}` has no `recv`, so it means no start. `["lose_frame", 1]` is a pair whose
-- word is not `offer`, so it is looked up as a loss: `LoseFrame 1`. `"jump"` is none of the words,
-- so it means no event.
-- Source: this project's profile.
use Rattle.std.specs.Prelude.{ℕ, codes, true, false, List, if◌then◌else◌}
use Rattle.std.specs.Prelude.{Option, Some, None, option_map}
use Rattle.std.specs.Str.{bytes_eq}
use Rattle.stab_core.specs.declared.act.LinkAct.{LinkAct}
use Rattle.stab_core.specs.declared.act.LinkAct.TheVariants.{Offer, SendFrame, RecvFrame, SendAck}
use Rattle.stab_core.specs.declared.act.LinkAct.TheVariants.{RecvAck, LoseFrame, LoseAck, Close}
use Rattle.stab_core.specs.declared.event.Event.{Event}
use Rattle.stab_core.specs.LinkActs.{event_of}
use Rattle.serde_json.specs.Data.{Data, null, boolean, number, string, array, object}
use Rattle.serde_json.specs.Find.{as_str}
use Rattle.stab_json.specs.Values.{◌>>=◌, label, item_number, pair}

-- the act that a word names by itself
abbrev pub plain_act : List ℕ → Option LinkAct
plain_act word =
    if bytes_eq word (codes "offer") then Some Offer
    else (if bytes_eq word (codes "send_frame") then Some SendFrame
    else (if bytes_eq word (codes "recv_frame") then Some (RecvFrame false)
    else (if bytes_eq word (codes "recv_frame_keep") then Some (RecvFrame true)
    else (if bytes_eq word (codes "send_ack") then Some SendAck
    else (if bytes_eq word (codes "recv_ack") then Some (RecvAck false)
    else (if bytes_eq word (codes "recv_ack_keep") then Some (RecvAck true)
    else (if bytes_eq word (codes "close") then Some Close else None)))))))

-- the loss that a word names, of what is at a place
abbrev pub loss_act : List ℕ → Data → Option LinkAct
loss_act word place =
    if bytes_eq word (codes "lose_frame") then option_map LoseFrame (label place)
    else (if bytes_eq word (codes "lose_ack") then option_map LoseAck (label place) else None)

-- the event of an act that wants no item: an offer alone is none
abbrev pub event_without_item : LinkAct → Option Event
event_without_item act = event_of act None

-- the event of a word and a number: the offer of an item, or a loss at a place
abbrev pub numbered_event : List ℕ → Data → Option Event
numbered_event word item_or_place =
    if bytes_eq word (codes "offer") then event_of Offer (item_number item_or_place)
    else loss_act word item_or_place >>= event_without_item

-- an event: a word alone, or a list of a word and a number
abbrev pub event : Data → Option Event
event (string word) = plain_act word >>= event_without_item
event (array ds) =
    pair (array ds) >>= (λ parts. as_str parts.0 >>= (λ word. numbered_event word parts.1))
event _ = None
