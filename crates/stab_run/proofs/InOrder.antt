-- Ends that take their acts in order: each call of an end keeps it, and so it is once they are
-- finished.
use Rattle.std.proofs.Common.{◌≡◌, ◌≤◌, ℕ, zero, suc, ◌+◌, Bool, true, false, List, [], ◌∷◌, ◌++◌, drop, if◌then◌else◌, not, Result, Ok, Err, IfOk, IsOk, OnErr, refl, ap, sym, ◌∙◌, subst, arith}
use Rattle.std.specs.declared.alloc.AllocError.{AllocError}
use Rattle.stab_core.specs.declared.event.Effect.{Effect}
use Rattle.stab_core.specs.declared.event.Effect.TheVariants as effect
use Rattle.stab_frames.specs.declared.frame.Frame.{Frame}
use Rattle.stab_ends.specs.declared.seen.FrameSeen.{FrameSeen}
use Rattle.stab_ends.specs.declared.seen.FrameSeen.TheVariants as seen
use Rattle.stab_acts.specs.declared.act.OutAct.{OutAct}
use Rattle.stab_acts.specs.declared.act.OutAct.TheVariants.{Pass, Drop, Evict}
use Rattle.stab_acts.specs.Scripts.{ActsRemaining, after_out, after_outs, out_act}
use Rattle.stab_word.specs.Answers.{acts_after_effect, acts_after_seen, acts_put_where, has_frame, steps_under, steps_where}
use Rattle.stab_word.specs.Calls.{CloseCall, FrameSteps, offer_steps, OfferCall, PollAckCall, PollFrameCall, SendAckCall, SendCall}
use Rattle.stab_word.specs.Ends.{WordRecvView, WordSendView}
use Rattle.stab_word.specs.Views.{waiting_frame}
use Rattle.stab_word.specs.declared.words.FrameWord.TheVariants as frame
use Rattle.stab_word.specs.declared.view.SendStep.{SendStep}
use Rattle.stab_word.specs.declared.view.SendStep.TheVariants as send_step
use Rattle.stab_word.specs.declared.view.RecvStep.{RecvStep}
use Rattle.stab_word.specs.declared.view.RecvStep.TheVariants as recv_step
use Rattle.stab_run.specs.AnyEnds.{OfWordRecv, OfWordSend, SameRecvSteps, SameSendSteps}
use Rattle.stab_run.specs.Scripted.{AnswersInOrder, IsLetThrough, IsNewRecv, IsNewSend, SendsInOrder, TakesInOrder, ack_stores, frame_stores, let_through, steps_received, steps_sent, stored_under}
use Rattle.stab_run.specs.declared.any_send.AnySend.{AnySend}
use Rattle.stab_run.specs.declared.any_send.AnySend.TheVariants as send
use Rattle.stab_run.specs.declared.any_send.AnySendDone.{AnySendDone}
use Rattle.stab_run.specs.declared.any_send.AnySendDone.TheVariants as send_done
use Rattle.stab_run.specs.declared.any_recv.AnyRecv.{AnyRecv}
use Rattle.stab_run.specs.declared.any_recv.AnyRecv.TheVariants as recv
use Rattle.stab_run.specs.declared.any_recv.AnyRecvDone.{AnyRecvDone}
use Rattle.stab_run.specs.declared.any_recv.AnyRecvDone.TheVariants as recv_done

-- ---- acts

-- one more act is the first of those that remain
one_more_remains : (n : ℕ) (half : ActsRemaining) → drop 1 (after_outs n half).outs ≡ (after_outs (suc n) half).outs
one_more_remains zero half = refl
one_more_remains (suc n) half = one_more_remains n (after_out half)

one_more_through : (n : ℕ) (half : ActsRemaining)
    → let_through (suc n) half ≡ let_through n half + stored_under (out_act (after_outs n half).outs)
one_more_through zero half = omega arith
one_more_through (suc n) half = omega (arith, one_more_through n (after_out half))

module _ (half : ActsRemaining) where
  none_taken : TakesInOrder half 0 0 half.outs
  none_taken = record { taken = 0; few = omega arith; remain = refl; stored = refl }

  -- the same acts and stores
  none_more : (most stores stores_after : ℕ) (left left_after : List OutAct) → stores_after ≡ stores → left_after ≡ left
      → TakesInOrder half most stores left → TakesInOrder half most stores_after left_after
  none_more most stores stores_after left left_after same_stores same_acts before = record {
    taken = before.taken;
    few = before.few;
    remain = same_acts ∙ before.remain;
    stored = same_stores ∙ before.stored;
  }

  -- one more act, and what it lets through
  one_more : (most stores stores_after : ℕ) (left left_after : List OutAct) → stores_after ≡ stores + stored_under (out_act left)
      → left_after ≡ drop 1 left → TakesInOrder half most stores left → TakesInOrder half (most + 1) stores_after left_after
  one_more most stores stores_after left left_after through taken before = record {
    taken = suc before.taken;
    few = omega (arith, before.few);
    remain = taken ∙ (ap (λ acts. drop 1 acts) before.remain ∙ one_more_remains before.taken half);
    stored = omega (arith, through, before.stored, one_more_through before.taken half, ap (λ acts. stored_under (out_act acts)) before.remain);
  }

  more_allowed : (most stores : ℕ) (left : List OutAct) → TakesInOrder half most stores left → TakesInOrder half (most + 1) stores left
  more_allowed most stores left before =
      record { taken = before.taken; few = omega (arith, before.few); remain = before.remain; stored = before.stored }

  -- a call that takes an act where this test holds, and none elsewhere
  taken_where : (test : Bool) (most stores stores_after : ℕ) (old new : ActsRemaining)
      → stores_after ≡ stores + (if test then stored_under (out_act old.outs) else 0) → new ≡ acts_put_where test old
      → TakesInOrder half most stores old.outs → TakesInOrder half (most + 1) stores_after new.outs
  taken_where true most stores stores_after old new through acts before =
      one_more most stores stores_after old.outs new.outs through (ap (λ (h : ActsRemaining). h.outs) acts) before
  taken_where false most stores stores_after old new through acts before =
      more_allowed most stores_after new.outs
      (none_more most stores stores_after old.outs new.outs (omega (arith, through)) (ap (λ (h : ActsRemaining). h.outs) acts) before)

  finished : (most turns stores : ℕ) (left : List OutAct) → most ≤ turns → TakesInOrder half most stores left → IsLetThrough half turns stores
  finished most turns stores left within before =
      record { taken = before.taken; few = omega (arith, within, before.few); stored = before.stored }

  none_through : (turns : ℕ) → IsLetThrough half turns 0
  none_through turns = record { taken = 0; few = omega arith; stored = refl }

-- ---- stores

more_frames : (xs ys : List SendStep) → frame_stores (xs ++ ys) ≡ frame_stores xs + frame_stores ys
more_frames [] ys = omega arith
more_frames (send_step.OfferLoad item ∷ xs) ys = more_frames xs ys
more_frames (send_step.FrameStore f ∷ xs) ys = omega (arith, more_frames xs ys)
more_frames (send_step.AckLoad word ∷ xs) ys = more_frames xs ys
more_frames (send_step.CloseStore ∷ xs) ys = more_frames xs ys

more_acks : (xs ys : List RecvStep) → ack_stores (xs ++ ys) ≡ ack_stores xs + ack_stores ys
more_acks [] ys = omega arith
more_acks (recv_step.FrameLoad word ∷ xs) ys = more_acks xs ys
more_acks (recv_step.FrameLook word ∷ xs) ys = more_acks xs ys
more_acks (recv_step.AckStore label ∷ xs) ys = omega (arith, more_acks xs ys)

-- steps that store no frame, or no acknowledgement, change no count
same_frames : (old more new : List SendStep) → new ≡ old ++ more → frame_stores more ≡ 0 → frame_stores new ≡ frame_stores old
same_frames old more new is none = ap (λ xs. frame_stores xs) is ∙ (more_frames old more ∙ omega (arith, none))

same_acks : (old more new : List RecvStep) → new ≡ old ++ more → ack_stores more ≡ 0 → ack_stores new ≡ ack_stores old
same_acks old more new is none = ap (λ xs. ack_stores xs) is ∙ (more_acks old more ∙ omega (arith, none))

-- what is put into a word is stored as its act says
frames_under : (act : OutAct) (f : Frame) → frame_stores (steps_under act (send_step.FrameStore f)) ≡ stored_under act
frames_under Pass f = refl
frames_under Drop f = refl
frames_under Evict f = refl

frames_where : (test : Bool) (acts : ActsRemaining) (f : Frame)
    → frame_stores (steps_where test acts (send_step.FrameStore f)) ≡ (if test then stored_under (out_act acts.outs) else 0)
frames_where true acts f = frames_under (out_act acts.outs) f
frames_where false acts f = refl

acks_under : (act : OutAct) (label : ℕ) → ack_stores (steps_under act (recv_step.AckStore label)) ≡ stored_under act
acks_under Pass label = refl
acks_under Drop label = refl
acks_under Evict label = refl

acks_where : (test : Bool) (acts : ActsRemaining) (label : ℕ)
    → ack_stores (steps_where test acts (recv_step.AckStore label)) ≡ (if test then stored_under (out_act acts.outs) else 0)
acks_where true acts label = acks_under (out_act acts.outs) label
acks_where false acts label = refl

-- ---- what a call leaves of acts and steps

offers_store_nothing : (item : ℕ) (r : Result Bool AllocError) → frame_stores (offer_steps item r) ≡ 0
offers_store_nothing item (Ok true) = refl
offers_store_nothing item (Ok false) = refl
offers_store_nothing item (Err refused) = refl

close_stores_no_frame : (closed : Bool) → frame_stores (if closed then [] else send_step.CloseStore ∷ []) ≡ 0
close_stores_no_frame true = refl
close_stores_no_frame false = refl

looks_store_nothing : (old new : ℕ) (steps : List RecvStep) (r : Result FrameSeen AllocError) → FrameSteps old new steps r → ack_stores steps ≡ 0
looks_store_nothing old new [] r fits = absurd fits
looks_store_nothing old new (recv_step.AckStore label ∷ steps) r fits = absurd fits
looks_store_nothing old new (recv_step.FrameLoad word ∷ []) r fits = refl
looks_store_nothing old new (recv_step.FrameLoad word ∷ step ∷ steps) r fits = absurd fits
looks_store_nothing old new (recv_step.FrameLook word ∷ []) r fits = refl
looks_store_nothing old new (recv_step.FrameLook frame.Empty ∷ step ∷ steps) r fits = absurd fits
looks_store_nothing old new (recv_step.FrameLook frame.Closed ∷ step ∷ steps) r fits = absurd fits
looks_store_nothing old new (recv_step.FrameLook (frame.Full f) ∷ recv_step.FrameLoad word ∷ []) r fits = refl
looks_store_nothing old new (recv_step.FrameLook (frame.Full f) ∷ recv_step.FrameLoad word ∷ step ∷ steps) r fits = absurd fits
looks_store_nothing old new (recv_step.FrameLook (frame.Full f) ∷ recv_step.FrameLook word ∷ steps) r fits = absurd fits
looks_store_nothing old new (recv_step.FrameLook (frame.Full f) ∷ recv_step.AckStore label ∷ steps) r fits = absurd fits

-- what comes in takes no act for what goes out
outs_after_effect : (acts : ActsRemaining) (e : Effect) → (acts_after_effect acts e).outs ≡ acts.outs
outs_after_effect acts effect.Nothing = refl
outs_after_effect acts effect.Held = refl
outs_after_effect acts effect.Sent = refl
outs_after_effect acts (effect.Fresh item) = refl
outs_after_effect acts effect.Old = refl
outs_after_effect acts effect.Acked = refl
outs_after_effect acts effect.Ignored = refl
outs_after_effect acts effect.Lost = refl
outs_after_effect acts effect.Closed = refl

outs_after_seen : (acts : ActsRemaining) (s : FrameSeen) → (acts_after_seen acts s).outs ≡ acts.outs
outs_after_seen acts seen.Nothing = refl
outs_after_seen acts seen.Old = refl
outs_after_seen acts (seen.Fresh item) = refl
outs_after_seen acts seen.Closed = refl

outs_after_poll : (r : Result Effect AllocError) (old new : ActsRemaining) → IsOk r → IfOk r (λ e. new ≡ acts_after_effect old e) → new.outs ≡ old.outs
outs_after_poll (Ok e) old new always acts = ap (λ (h : ActsRemaining). h.outs) acts ∙ outs_after_effect old e
outs_after_poll (Err refused) old new always acts = cc

outs_after_look : (r : Result FrameSeen AllocError) (old new : WordRecvView) → OnErr r (new ≡ record old { steps = new.steps })
    → IfOk r (λ s. new.acts ≡ acts_after_seen old.acts s) → new.acts.outs ≡ old.acts.outs
outs_after_look (Ok s) old new unchanged acts = ap (λ (h : ActsRemaining). h.outs) acts ∙ outs_after_seen old.acts s
outs_after_look (Err refused) old new unchanged acts = ap (λ (e : WordRecvView). e.acts.outs) unchanged

-- ---- calls over two words

module _ (half : ActsRemaining) (most : ℕ) where
  abbrev SentBy : ℕ → WordSendView → Type 0
  SentBy at_most e = TakesInOrder half at_most (frame_stores e.steps) e.acts.outs

  abbrev AnsweredBy : ℕ → WordRecvView → Type 0
  AnsweredBy at_most e = TakesInOrder half at_most (ack_stores e.steps) e.acts.outs

  word_offer : (item : ℕ) (r : Result Bool AllocError) (old new : WordSendView) → OfferCall item r old new → SentBy most old → SentBy most new
  word_offer item r old new call before =
      none_more half most (frame_stores old.steps) (frame_stores new.steps) old.acts.outs new.acts.outs
      (same_frames old.steps (offer_steps item r) new.steps call.steps (offers_store_nothing item r))
      (ap (λ (e : WordSendView). e.acts.outs) call.rest) before

  word_send : (r : Result Effect AllocError) (old new : WordSendView) → SendCall r old new → SentBy most old → SentBy (most + 1) new
  word_send r old new call before =
      let store = send_step.FrameStore (waiting_frame old.label old.sent) in
      let more = steps_where (has_frame old.sent) old.acts store in
      taken_where half (has_frame old.sent) most (frame_stores old.steps) (frame_stores new.steps) old.acts new.acts
      (ap (λ xs. frame_stores xs) call.steps
      ∙ (more_frames old.steps more
      ∙ ap (λ n. frame_stores old.steps + n) (frames_where (has_frame old.sent) old.acts (waiting_frame old.label old.sent))))
      call.acts before

  word_poll_ack : (r : Result Effect AllocError) (old new : WordSendView) → PollAckCall r old new → SentBy most old → SentBy most new
  word_poll_ack r old new call before = by_close old.sent.closed refl
    where
      by_close : (closed : Bool) → old.sent.closed ≡ closed → SentBy most new
      by_close true is = subst (SentBy most) (sym (call.closed is).1) before
      by_close false is =
          let (word, steps, answer) = call.still_open is in
          none_more half most (frame_stores old.steps) (frame_stores new.steps) old.acts.outs new.acts.outs
          (same_frames old.steps (send_step.AckLoad word ∷ []) new.steps steps refl)
          (outs_after_poll r old.acts new.acts call.always call.acts) before

  word_close : (r : Result Effect AllocError) (old new : WordSendView) → CloseCall r old new → SentBy most old → SentBy most new
  word_close r old new call before =
      none_more half most (frame_stores old.steps) (frame_stores new.steps) old.acts.outs new.acts.outs
      (same_frames old.steps _ new.steps call.steps (close_stores_no_frame old.sent.closed))
      (ap (λ (e : WordSendView). e.acts.outs) call.rest) before

  word_poll_frame : (r : Result FrameSeen AllocError) (old new : WordRecvView) → PollFrameCall r old new → AnsweredBy most old → AnsweredBy most new
  word_poll_frame r old new call before = by_close old.received.closed refl
    where
      by_close : (closed : Bool) → old.received.closed ≡ closed → AnsweredBy most new
      by_close true is = subst (AnsweredBy most) (sym (call.closed is).1) before
      by_close false is =
          let (steps, more, fits) = call.still_open is in
          none_more half most (ack_stores old.steps) (ack_stores new.steps) old.acts.outs new.acts.outs
          (same_acks old.steps steps new.steps more (looks_store_nothing old.label new.label steps r fits))
          (outs_after_look r old new call.unchanged call.acts) before

  word_send_ack : (r : Result Effect AllocError) (old new : WordRecvView) → SendAckCall r old new → AnsweredBy most old
      → AnsweredBy (most + 1) new
  word_send_ack r old new call before =
      let unseen = not old.received.closed in
      let more = steps_where unseen old.acts (recv_step.AckStore old.label) in
      taken_where half unseen most (ack_stores old.steps) (ack_stores new.steps) old.acts new.acts
      (ap (λ xs. ack_stores xs) call.steps
      ∙ (more_acks old.steps more ∙ ap (λ n. ack_stores old.steps + n) (acks_where unseen old.acts old.label)))
      call.acts before

  -- ---- calls of an end of either kind

  any_send : {R : Type 0} (IsCall : WordSendView → WordSendView → Type 0) (at_most : ℕ)
      → ((old new : WordSendView) → IsCall old new → SentBy most old → SentBy at_most new)
      → (old new : AnySend R) → OfWordSend IsCall old new → SendsInOrder half most old → SendsInOrder half at_most new
  any_send IsCall at_most keeps (send.Lock old) (send.Lock new) call before = tt
  any_send IsCall at_most keeps (send.Lock old) (send.Word new) call before = absurd call
  any_send IsCall at_most keeps (send.Word old) (send.Lock new) call before = absurd call
  any_send IsCall at_most keeps (send.Word old) (send.Word new) call before = keeps old new call before

  any_recv : {R : Type 0} (IsCall : WordRecvView → WordRecvView → Type 0) (at_most : ℕ)
      → ((old new : WordRecvView) → IsCall old new → AnsweredBy most old → AnsweredBy at_most new)
      → (old new : AnyRecv R) → OfWordRecv IsCall old new → AnswersInOrder half most old → AnswersInOrder half at_most new
  any_recv IsCall at_most keeps (recv.Lock old) (recv.Lock new) call before = tt
  any_recv IsCall at_most keeps (recv.Lock old) (recv.Word new) call before = absurd call
  any_recv IsCall at_most keeps (recv.Word old) (recv.Lock new) call before = absurd call
  any_recv IsCall at_most keeps (recv.Word old) (recv.Word new) call before = keeps old new call before

  module _ {R : Type 0} (old new : AnySend R) where
    pub offer_keeps : (item : ℕ) (r : Result Bool AllocError) → OfWordSend (OfferCall item r) old new → SendsInOrder half most old
        → SendsInOrder half most new
    offer_keeps item r call before = any_send (OfferCall item r) most (word_offer item r) old new call before

    pub send_keeps : (r : Result Effect AllocError) → OfWordSend (SendCall r) old new → SendsInOrder half most old
        → SendsInOrder half (most + 1) new
    send_keeps r call before = any_send (SendCall r) (most + 1) (word_send r) old new call before

    pub poll_ack_keeps : (r : Result Effect AllocError) → OfWordSend (PollAckCall r) old new → SendsInOrder half most old
        → SendsInOrder half most new
    poll_ack_keeps r call before = any_send (PollAckCall r) most (word_poll_ack r) old new call before

    pub close_keeps : (r : Result Effect AllocError) → OfWordSend (CloseCall r) old new → SendsInOrder half most old
        → SendsInOrder half most new
    close_keeps r call before = any_send (CloseCall r) most (word_close r) old new call before

  module _ {R : Type 0} (old new : AnyRecv R) where
    pub poll_frame_keeps : (r : Result FrameSeen AllocError) → OfWordRecv (PollFrameCall r) old new → AnswersInOrder half most old
        → AnswersInOrder half most new
    poll_frame_keeps r call before = any_recv (PollFrameCall r) most (word_poll_frame r) old new call before

    pub send_ack_keeps : (r : Result Effect AllocError) → OfWordRecv (SendAckCall r) old new → AnswersInOrder half most old
        → AnswersInOrder half (most + 1) new
    send_ack_keeps r call before = any_recv (SendAckCall r) (most + 1) (word_send_ack r) old new call before

-- ---- new ends, and finished ones

pub new_sends : {R : Type 0} (half : ActsRemaining) (end : AnySend R) → IsNewSend half end → SendsInOrder half 0 end
new_sends half (send.Lock end) new = tt
new_sends half (send.Word end) new =
    none_more half 0 0 (frame_stores end.steps) half.outs end.acts.outs (ap (λ xs. frame_stores xs) new.0)
    (ap (λ (h : ActsRemaining). h.outs) new.1) (none_taken half)

pub new_answers : {R : Type 0} (half : ActsRemaining) (end : AnyRecv R) → IsNewRecv half end → AnswersInOrder half 0 end
new_answers half (recv.Lock end) new = tt
new_answers half (recv.Word end) new =
    none_more half 0 0 (ack_stores end.steps) half.outs end.acts.outs (ap (λ xs. ack_stores xs) new.0)
    (ap (λ (h : ActsRemaining). h.outs) new.1) (none_taken half)

pub finished_sends : {R : Type 0} (half : ActsRemaining) (most turns : ℕ) (end : AnySend R) (done : AnySendDone) → most ≤ turns
    → SendsInOrder half most end → SameSendSteps end done → IsLetThrough half turns (frame_stores (steps_sent done))
finished_sends half most turns (send.Lock end) (send_done.Lock done) within before same = none_through half turns
finished_sends half most turns (send.Lock end) (send_done.Word done) within before same = absurd same
finished_sends half most turns (send.Word end) (send_done.Lock done) within before same = absurd same
finished_sends half most turns (send.Word end) (send_done.Word done) within before same =
    subst (λ xs. IsLetThrough half turns (frame_stores xs)) (sym same)
    (finished half most turns (frame_stores end.steps) end.acts.outs within before)

pub finished_answers : {R : Type 0} (half : ActsRemaining) (most turns : ℕ) (end : AnyRecv R) (done : AnyRecvDone) → most ≤ turns
    → AnswersInOrder half most end → SameRecvSteps end done → IsLetThrough half turns (ack_stores (steps_received done))
finished_answers half most turns (recv.Lock end) (recv_done.Lock done) within before same = none_through half turns
finished_answers half most turns (recv.Lock end) (recv_done.Word done) within before same = absurd same
finished_answers half most turns (recv.Word end) (recv_done.Lock done) within before same = absurd same
finished_answers half most turns (recv.Word end) (recv_done.Word done) within before same =
    subst (λ xs. IsLetThrough half turns (ack_stores xs)) (sym same)
    (finished half most turns (ack_stores end.steps) end.acts.outs within before)
