-- What calls note depends only on the acts that they take.
-- So calls note the same under two scripts that are the same as far as they were taken.
use Rattle.std.proofs.Common.{◌≡◌, ◌≤◌, true, false, List, [], ◌∷◌, drop, length, refl, ap, ◌∙◌, subst, rules, arith, Bool, if◌then◌else◌}
use Rattle.stab_frames.specs.Parameters.{Parameters}
use Rattle.stab_core.specs.declared.event.Event.{Event}
use Rattle.stab_core.specs.declared.event.Event.TheVariants as event
use Rattle.stab_core.specs.declared.event.Effect.{Effect}
use Rattle.stab_core.specs.LinkState.{LinkState, is_idle, is_holding}
use Rattle.stab_core.specs.Step.{effect}
use Rattle.stab_acts.specs.declared.act.OutAct.{OutAct}
use Rattle.stab_acts.specs.declared.act.OutAct.TheVariants.{Pass, Drop, Evict}
use Rattle.stab_acts.specs.declared.act.InAct.{InAct}
use Rattle.stab_acts.specs.Scripts.{ActsRemaining, after_in, after_out, in_act, out_act}
use Rattle.stab_lock.specs.declared.put.Put.{Put}
use Rattle.stab_lock.specs.Book.{Book, book_after, state_of}
use Rattle.stab_lock.specs.Calls.{Call, offering, sending, polling_ack, closing, polling_frame, sending_ack}
use Rattle.stab_lock.specs.Calls.{Noted, acts_after, book_noting, frame_put, ack_put, has_front, keeps, no_acts, noted, noted_open, puts}
use Rattle.stab_lock.specs.Scripted.{Shared, after_call, after_calls}
use Rattle.stab_lock.specs.Taken.{SameHalfTaken}
use Rattle.stab_lock.proofs.SameActs.{same_dropped, same_out_act, same_in_act}

-- what is noted takes no act, or one for what goes out, or one for what comes in
pub data Uses (n : ActsRemaining → Noted) : Type 0 where
  no_act : (events : List Event) (answer : Effect)
      → ((acts : ActsRemaining) → n acts ≡ record { events = events; answer = answer; acts = acts }) → Uses n
  an_out : (events : OutAct → List Event) (answer : OutAct → Effect)
      → ((acts : ActsRemaining) → n acts ≡ record { events = events (out_act acts.outs); answer = answer (out_act acts.outs); acts = after_out acts })
      → Uses n
  an_in : (events : InAct → List Event) (answer : InAct → Effect)
      → ((acts : ActsRemaining) → n acts ≡ record { events = events (in_act acts.ins); answer = answer (in_act acts.ins); acts = after_in acts })
      → Uses n

-- what is put into a queue leaves the acts but for the first, whatever that is
puts_leave : (p : Parameters) (s : LinkState) (way : Put) (act : OutAct) (acts : ActsRemaining)
    → puts p s way act acts ≡ record { events = (puts p s way act no_acts).events; answer = (puts p s way act no_acts).answer; acts = after_out acts }
puts_leave p s way Pass acts = refl
puts_leave p s way Drop acts = refl
puts_leave p s way Evict acts = refl

-- so it takes an act for what goes out
puts_use : (p : Parameters) (s : LinkState) (way : Put) → Uses (λ acts. puts p s way (out_act acts.outs) acts)
puts_use p s way =
    an_out (λ act. (puts p s way act no_acts).events) (λ act. (puts p s way act no_acts).answer)
    (λ acts. puts_leave p s way (out_act acts.outs) acts)

-- what notes one event takes no act
event_uses : (p : Parameters) (s : LinkState) (e : Event) → Uses (λ acts. record { events = e ∷ []; answer = effect p s e; acts = acts })
event_uses p s e = no_act (e ∷ []) (effect p s e) (λ acts. refl)

-- what notes one that an act for what comes in makes takes this act
received_uses : (p : Parameters) (s : LinkState) (received : InAct → Event)
    → Uses (λ acts. record { events = received (in_act acts.ins) ∷ []; answer = effect p s (received (in_act acts.ins)); acts = after_in acts })
received_uses p s received = an_in (λ act. received act ∷ []) (λ act. effect p s (received act)) (λ acts. refl)

-- what notes nothing takes no act
nothing_uses : (answer : Effect) → Uses (λ acts. record { events = []; answer = answer; acts = acts })
nothing_uses answer = no_act [] answer (λ acts. refl)

-- a test that looks at no act takes none
uses_if : (test : Bool) (n m : ActsRemaining → Noted) → Uses n → Uses m → Uses (λ acts. if test then n acts else m acts)
uses_if true n m yes_uses no_uses = yes_uses
uses_if false n m yes_uses no_uses = no_uses

-- each call on an open link takes at most one act
open_uses : (call : Call) (p : Parameters) (s : LinkState) → Uses (noted_open call p s)
open_uses (offering item) p s = uses_if (is_idle s) _ _ (event_uses p s (event.Offer item)) (nothing_uses _)
open_uses sending p s = uses_if (is_holding s) _ _ (puts_use p s (frame_put s)) (nothing_uses _)
open_uses polling_ack p s = uses_if (has_front s.acks) _ _ (received_uses p s (λ act. event.RecvAck (keeps act))) (nothing_uses _)
open_uses closing p s = event_uses p s event.Close
open_uses polling_frame p s = uses_if (has_front s.frames) _ _ (received_uses p s (λ act. event.RecvFrame (keeps act))) (nothing_uses _)
open_uses sending_ack p s = puts_use p s (ack_put s)

-- and so does each call
pub call_uses : (call : Call) (p : Parameters) (s : LinkState) → Uses (noted call p s)
call_uses call p s = uses_if s.closed _ _ (nothing_uses _) (open_uses call p s)

-- of a half no more acts remain than of another
pub record NoLonger (half other : ActsRemaining) : Type 0 where
  pub outs : length half.outs ≤ length other.outs
  pub ins : length half.ins ≤ length other.ins

-- once an act was taken no more remain
pub fewer : {A : Type 0} (xs : List A) → length (drop 1 xs) ≤ length xs
fewer [] = search rules
fewer (x ∷ xs) = omega arith

-- a half is no longer than itself
pub as_long : (half : ActsRemaining) → NoLonger half half
as_long half = record { outs = omega arith; ins = omega arith }

-- where one half is no longer than a second, and that no longer than a third, so is the first
pub no_longer_still : (a b c : ActsRemaining) → NoLonger a b → NoLonger b c → NoLonger a c
no_longer_still a b c first second =
    record { outs = omega (arith, first.outs, second.outs); ins = omega (arith, first.ins, second.ins) }

-- what is noted leaves no more acts than there were
only_takes : (n : ActsRemaining → Noted) → Uses n → (acts : ActsRemaining) → NoLonger (n acts).acts acts
only_takes n (no_act events answer is) acts = rw (is acts) (as_long acts)
only_takes n (an_out events answer is) acts = rw (is acts) (record { outs = fewer acts.outs; ins = omega arith })
only_takes n (an_in events answer is) acts = rw (is acts) (record { outs = omega arith; ins = fewer acts.ins })

-- what is noted under either of two halves, and what it leaves of them
pub record SameNoted (left : ActsRemaining) (one other : Noted) : Type 0 where
  pub events : one.events ≡ other.events
  pub acts : SameHalfTaken left one.acts other.acts

-- halves that are the same as far as they are taken make a call note the same, and are so afterwards
pub same_noted : (n : ActsRemaining → Noted) → Uses n → (left one other : ActsRemaining) → SameHalfTaken left one other → NoLonger left (n one).acts
    → SameNoted left (n one) (n other)
same_noted n (no_act events answer is) left one other same more = rw (is one, is other) (record { events = refl; acts = same })
same_noted n (an_out events answer is) left one other same more =
    let taken : NoLonger left (after_out one) = subst (λ (x : Noted). NoLonger left x.acts) (is one) more in
    rw (is one, is other)
    (record {
      events = ap events (same_out_act _ _ _ same.outs taken.outs);
      acts = record { outs = same_dropped _ _ _ same.outs taken.outs; ins = same.ins };
    })
same_noted n (an_in events answer is) left one other same more =
    let taken : NoLonger left (after_in one) = subst (λ (x : Noted). NoLonger left x.acts) (is one) more in
    rw (is one, is other)
    (record {
      events = ap events (same_in_act _ _ _ same.ins taken.ins);
      acts = record { outs = same.outs; ins = same_dropped _ _ _ same.ins taken.ins };
    })

-- what is behind the lock has no more acts left than before
pub record NoMoreLeft (now before : Shared) : Type 0 where
  pub sender : NoLonger now.sender before.sender
  pub receiver : NoLonger now.receiver before.receiver

-- after a call under a half no more of its acts remain
no_more_after : (call : Call) (b : Book) (acts : ActsRemaining) → NoLonger (acts_after call b acts) acts
no_more_after call b acts = only_takes (noted call b.params (state_of b)) (call_uses call b.params (state_of b)) acts

-- nor after a call of either end
no_more_after_call : (call : Call) (s : Shared) → NoMoreLeft (after_call call s) s
no_more_after_call (offering item) s = record { sender = as_long s.sender; receiver = as_long s.receiver }
no_more_after_call sending s = record { sender = no_more_after sending s.book s.sender; receiver = as_long s.receiver }
no_more_after_call polling_ack s = record { sender = no_more_after polling_ack s.book s.sender; receiver = as_long s.receiver }
no_more_after_call closing s = record { sender = as_long s.sender; receiver = as_long s.receiver }
no_more_after_call polling_frame s = record { sender = as_long s.sender; receiver = no_more_after polling_frame s.book s.receiver }
no_more_after_call sending_ack s = record { sender = as_long s.sender; receiver = no_more_after sending_ack s.book s.receiver }

-- nor after several calls
no_more_after_calls : (calls : List Call) (s : Shared) → NoMoreLeft (after_calls calls s) s
unfolding after_calls
no_more_after_calls [] s = record { sender = as_long s.sender; receiver = as_long s.receiver }
no_more_after_calls (call ∷ calls) s =
    let first = no_more_after_call call s in
    let others = no_more_after_calls calls (after_call call s) in
    record {
      sender = no_longer_still _ _ _ others.sender first.sender;
      receiver = no_longer_still _ _ _ others.receiver first.receiver;
    }

-- two locked links with the same book, whose halves are the same as far as they are taken up to an end
pub record SameUpTo (end one other : Shared) : Type 0 where
  pub book : one.book ≡ other.book
  pub sender : SameHalfTaken end.sender one.sender other.sender
  pub receiver : SameHalfTaken end.receiver one.receiver other.receiver

-- a call under either of two such halves, of books that are the same
module _ (call : Call) (left : ActsRemaining) (b c : Book) (same_book : b ≡ c) (one other : ActsRemaining) (same : SameHalfTaken left one other)
    (more : NoLonger left (acts_after call b one)) where
  -- it notes the same
  both_noted : SameNoted left (noted call b.params (state_of b) one) (noted call b.params (state_of b) other)
  both_noted = same_noted (noted call b.params (state_of b)) (call_uses call b.params (state_of b)) left one other same more

  -- it leaves the same book
  same_book_after : book_noting call b one ≡ book_noting call c other
  same_book_after = ap (λ events. book_after b events) both_noted.events ∙ ap (λ x. book_noting call x other) same_book

  -- and such halves
  same_half_after : SameHalfTaken left (acts_after call b one) (acts_after call c other)
  same_half_after = subst (λ x. SameHalfTaken left (acts_after call b one) (acts_after call x other)) same_book both_noted.acts

-- a call of either end leaves the same book and such halves
same_after_call : (call : Call) (end one other : Shared) → SameUpTo end one other → NoMoreLeft end (after_call call one)
    → SameUpTo end (after_call call one) (after_call call other)
same_after_call (offering item) end one other same more =
    record { book = ap (λ b. book_noting (offering item) b no_acts) same.book; sender = same.sender; receiver = same.receiver }
same_after_call sending end one other same more =
    record {
      book = same_book_after sending _ _ _ same.book _ _ same.sender more.sender;
      sender = same_half_after sending _ _ _ same.book _ _ same.sender more.sender;
      receiver = same.receiver;
    }
same_after_call polling_ack end one other same more =
    record {
      book = same_book_after polling_ack _ _ _ same.book _ _ same.sender more.sender;
      sender = same_half_after polling_ack _ _ _ same.book _ _ same.sender more.sender;
      receiver = same.receiver;
    }
same_after_call closing end one other same more =
    record { book = ap (λ b. book_noting closing b no_acts) same.book; sender = same.sender; receiver = same.receiver }
same_after_call polling_frame end one other same more =
    record {
      book = same_book_after polling_frame _ _ _ same.book _ _ same.receiver more.receiver;
      sender = same.sender;
      receiver = same_half_after polling_frame _ _ _ same.book _ _ same.receiver more.receiver;
    }
same_after_call sending_ack end one other same more =
    record {
      book = same_book_after sending_ack _ _ _ same.book _ _ same.receiver more.receiver;
      sender = same.sender;
      receiver = same_half_after sending_ack _ _ _ same.book _ _ same.receiver more.receiver;
    }

-- so several calls lead to the same book, where the halves are the same as far as these calls take them
pub same_after_calls : (calls : List Call) (one other : Shared) → SameUpTo (after_calls calls one) one other
    → (after_calls calls one).book ≡ (after_calls calls other).book
unfolding after_calls
same_after_calls [] one other same = same.book
same_after_calls (call ∷ calls) one other same =
    same_after_calls calls (after_call call one) (after_call call other)
    (same_after_call call (after_calls calls (after_call call one)) one other same (no_more_after_calls calls (after_call call one)))
