-- What a call of an end notes: from the state of the link and the acts that remain, to the events
-- that happen, the answer, and the acts that remain afterwards. On a closed link nothing is noted,
-- and an event that would change nothing is not noted.
-- Example: Capacity 1, label 0 at the sender, 3 at the receiver, and the acts Drop, Pass, Evict for
-- frames. After an offer of 7: a first send notes nothing and answers Lost, and its act is taken; a
-- second notes `SendFrame` and answers Sent; a third notes `LoseFrame 0` and `SendFrame` and
-- answers Sent; a fourth, past the end of the acts, notes `SendFrame` and answers Lost, since the
-- queue is full.
-- Source: this project's profile.
use Rattle.std.specs.Prelude.{◌≡◌, ℕ, Bool, true, false, List, [], ◌∷◌, if◌then◌else◌}
use Rattle.stab_frames.specs.Parameters.{Parameters}
use Rattle.stab_core.specs.declared.event.Event.{Event}
use Rattle.stab_core.specs.declared.event.Event.TheVariants as event
use Rattle.stab_core.specs.declared.event.Effect.{Effect}
use Rattle.stab_core.specs.declared.event.Effect.TheVariants.{Nothing, Held, Sent, Fresh, Old}
use Rattle.stab_core.specs.declared.event.Effect.TheVariants.{Lost, Closed}
use Rattle.stab_core.specs.LinkState.{LinkState, is_idle, is_holding}
use Rattle.stab_core.specs.Link.{Grows}
use Rattle.stab_core.specs.Step.{effect, step}
use Rattle.stab_lock.specs.declared.put.Put.{Put}
use Rattle.stab_ends.specs.declared.seen.FrameSeen.{FrameSeen}
use Rattle.stab_ends.specs.declared.seen.FrameSeen.TheVariants as seen
use Rattle.stab_lock.specs.Book.{Book, state_of, book_after, MayRefuseAll}
use Rattle.stab_acts.specs.declared.act.OutAct.{OutAct}
use Rattle.stab_acts.specs.declared.act.OutAct.TheVariants.{Pass, Drop, Evict}
use Rattle.stab_acts.specs.declared.act.InAct.{InAct}
use Rattle.stab_acts.specs.declared.act.InAct.TheVariants.{Take, Keep}
use Rattle.stab_acts.specs.Scripts.{ActsRemaining, out_act, in_act, after_out, after_in}

-- the six calls
pub data Call : Type 0 where
  offering : ℕ → Call
  sending : Call
  polling_ack : Call
  closing : Call
  polling_frame : Call
  sending_ack : Call

-- what a call notes, what it answers, and the acts that remain after it
pub record Noted : Type 0 where
  pub events : List Event
  pub answer : Effect
  pub acts : ActsRemaining

-- it notes nothing and takes no act
abbrev pub notes_nothing : Effect → ActsRemaining → Noted
notes_nothing answer acts = record { events = []; answer = answer; acts = acts }

-- it notes this event alone, answers its effect, and leaves these acts
abbrev pub notes_event : Parameters → LinkState → Event → ActsRemaining → Noted
notes_event p s e acts = record { events = e ∷ []; answer = effect p s e; acts = acts }

-- a queue holds something
abbrev pub has_front : {A : Type 0} → List A → Bool
has_front [] = false
has_front (x ∷ xs) = true

-- what an end sends, under the act for what goes out
abbrev pub puts : Parameters → LinkState → Put → OutAct → ActsRemaining → Noted
puts p s way Pass acts = notes_event p s way.put (after_out acts)
puts p s way Drop acts = notes_nothing Lost (after_out acts)
puts p s way Evict acts =
    record {
      events = if way.has_front then way.loss ∷ way.put ∷ [] else way.put ∷ [];
      answer = Sent;
      acts = after_out acts;
    }

-- a frame, and an acknowledgement, that is sent
abbrev pub frame_put : LinkState → Put
frame_put s =
    record { put = event.SendFrame; loss = event.LoseFrame 0; has_front = has_front s.frames }

abbrev pub ack_put : LinkState → Put
ack_put s = record { put = event.SendAck; loss = event.LoseAck 0; has_front = has_front s.acks }

-- whether the front that is received stays
abbrev pub keeps : InAct → Bool
keeps Take = false
keeps Keep = true

-- what a call notes on an open link
abbrev pub noted_open : Call → Parameters → LinkState → ActsRemaining → Noted
noted_open (offering item) p s acts =
    if is_idle s then notes_event p s (event.Offer item) acts else notes_nothing Nothing acts
noted_open sending p s acts =
    if is_holding s
    then puts p s (frame_put s) (out_act acts.outs) acts
    else notes_nothing Nothing acts
noted_open polling_ack p s acts =
    if has_front s.acks
    then notes_event p s (event.RecvAck (keeps (in_act acts.ins))) (after_in acts)
    else notes_nothing Nothing acts
noted_open closing p s acts = notes_event p s event.Close acts
noted_open polling_frame p s acts =
    if has_front s.frames
    then notes_event p s (event.RecvFrame (keeps (in_act acts.ins))) (after_in acts)
    else notes_nothing Nothing acts
noted_open sending_ack p s acts =
    puts p s (ack_put s) (out_act acts.outs) acts

-- a closed link shows its close to the receiver, and answers all other calls with nothing
abbrev pub answer_closed : Call → Effect
answer_closed polling_frame = Closed
answer_closed _ = Nothing

-- what a call notes
abbrev pub noted : Call → Parameters → LinkState → ActsRemaining → Noted
noted call p s acts =
    if s.closed then notes_nothing (answer_closed call) acts else noted_open call p s acts

-- the same of a book: the book after a call, what the call answers, and the acts that remain
abbrev pub book_noting : Call → Book → ActsRemaining → Book
book_noting call b acts = book_after b (noted call b.params (state_of b) acts).events

abbrev pub answer_of : Call → Book → ActsRemaining → Effect
answer_of call b acts = (noted call b.params (state_of b) acts).answer

abbrev pub acts_after : Call → Book → ActsRemaining → ActsRemaining
acts_after call b acts = (noted call b.params (state_of b) acts).acts

-- when a book may refuse a call
abbrev pub MayRefuseCall : Call → Book → ActsRemaining → Type 0
MayRefuseCall call b acts = MayRefuseAll b (noted call b.params (state_of b) acts).events

-- the acts of a call that looks at none
abbrev pub no_acts : ActsRemaining
no_acts = record { outs = []; ins = [] }

-- what a book notes of something that is put into a queue
abbrev pub put_noted : Book → Put → ActsRemaining → Noted
put_noted b way acts = puts b.params (state_of b) way (out_act acts.outs) acts

-- what is put is sent once the front of its queue is lost, or where there is no front
pub record IsSent (b : Book) (way : Put) : Type 0 where
  pub loss_grows_nothing : ¬ Grows (effect b.params (state_of b) way.loss)
  pub after_loss : effect b.params (step b.params (state_of b) way.loss) way.put ≡ Sent
  pub where_empty : way.has_front ≡ false → effect b.params (state_of b) way.put ≡ Sent

-- an offer is answered true where the item is held
abbrev pub is_held : Effect → Bool
is_held Held = true
is_held _ = false

-- what the receiver's end saw, by the answer
abbrev pub seen_by : Effect → FrameSeen
seen_by (Fresh item) = seen.Fresh item
seen_by Old = seen.Old
seen_by Closed = seen.Closed
seen_by _ = seen.Nothing
