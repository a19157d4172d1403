-- What each call of an end of a link of two words answers, which loads and stores it makes, and
-- what it leaves of the end. What a load shows is the other end's doing; the answer goes by it.
-- Example: A sender with label 0 that offered 7 and is not acknowledged, with the acts Drop, Pass:
-- `send` answers Lost and makes no step; then Sent, with one store of the frame 0=7; and then the
-- same again, past the end of its acts. A sender that has no item that waits answers Nothing, makes
-- no step and takes no act. A receiver that remembers 1 and has no place for an item: a look that
-- shows the frame 1=5 is the one step of its call, which answers Old; one that shows 2=99 is
-- followed by a load, or by a refusal of memory.
-- Source: this project's profile.
use Rattle.std.specs.Prelude.{◌≡◌, ◌≢◌, ◌⊎◌, ℕ, ◌+◌, ◌==◌, ◌&&◌, not, Bool, true, false, length}
use Rattle.std.specs.Prelude.{List, [], ◌∷◌, ◌++◌, if◌then◌else◌, Result, Ok, Err, IsOk, IsErr}
use Rattle.std.specs.Prelude.{IfOk, OnErr}
use Rattle.std.specs.declared.alloc.AllocError.{AllocError}
use Rattle.stab_core.specs.declared.event.Effect.{Effect}
use Rattle.stab_core.specs.declared.event.Effect.TheVariants.{Nothing, Acked, Ignored, Closed}
use Rattle.stab_ends.specs.Accounts.{MayOffer}
use Rattle.stab_ends.specs.declared.seen.FrameSeen.{FrameSeen}
use Rattle.stab_ends.specs.declared.seen.FrameSeen.TheVariants as seen
use Rattle.stab_word.specs.Answers.{put_where, acts_put_where, steps_where, has_frame}
use Rattle.stab_word.specs.Answers.{label_after_effect, acts_after_effect, acts_after_seen}
use Rattle.stab_word.specs.Ends.{WordSendView, WordRecvView}
use Rattle.stab_word.specs.Views.{is_waiting, waiting_frame}
use Rattle.stab_word.specs.declared.words.FrameWord.{FrameWord}
use Rattle.stab_word.specs.declared.words.FrameWord.TheVariants as frame
use Rattle.stab_word.specs.declared.words.AckWord.{AckWord}
use Rattle.stab_word.specs.declared.words.AckWord.TheVariants as ack
use Rattle.stab_word.specs.declared.view.SendStep.{SendStep}
use Rattle.stab_word.specs.declared.view.SendStep.TheVariants as send_step
use Rattle.stab_word.specs.declared.view.RecvStep.{RecvStep}
use Rattle.stab_word.specs.declared.view.RecvStep.TheVariants as recv_step

-- ---- the sender's calls

-- an item that is taken is one load
abbrev pub offer_steps : ℕ → Result Bool AllocError → List SendStep
offer_steps item (Ok true) = send_step.OfferLoad item ∷ []
offer_steps item (Ok false) = []
offer_steps item (Err refused) = []

-- an offer changes the account and the steps alone
pub record OfferCall (item : ℕ) (r : Result Bool AllocError) (old new : WordSendView) : Type 0 where
  -- an end does not take an item where it is closed, or where its last item waits
  pub not_taken : IfOk r (λ taken. taken ≡ false
      → (old.sent.closed ≡ true) ⊎ (length old.sent.offered ≡ old.sent.acked + 1))
  -- it takes memory only where it would take the item
  pub memory : OnErr r (MayOffer old.sent)
  pub steps : new.steps ≡ old.steps ++ offer_steps item r
  pub rest : new ≡ record old { sent = new.sent; steps = new.steps }

-- a frame that waits is stored, or dropped, by the next act
pub record SendCall (r : Result Effect AllocError) (old new : WordSendView) : Type 0 where
  pub answer : r ≡ Ok (put_where (has_frame old.sent) old.acts)
  pub acts : new.acts ≡ acts_put_where (has_frame old.sent) old.acts
  pub steps : new.steps ≡ old.steps ++ steps_where (has_frame old.sent) old.acts
      (send_step.FrameStore (waiting_frame old.label old.sent))
  pub label : new.label ≡ old.label

-- the answer where a load shows this acknowledgement word
abbrev pub ack_answer : WordSendView → AckWord → Effect
ack_answer e ack.Empty = Nothing
ack_answer e (ack.Full label) =
    if is_waiting e.sent && (label == e.label) then Acked else Ignored

-- a look for an acknowledgement is one load on an open link, and no step once the end closed it; it
-- takes no memory
pub record PollAckCall (r : Result Effect AllocError) (old new : WordSendView) : Type 0 where
  pub always : IsOk r
  pub closed : old.sent.closed ≡ true → (r ≡ Ok Nothing) × (new ≡ old)
  pub still_open : old.sent.closed ≡ false → (word : AckWord)
      × (new.steps ≡ old.steps ++ send_step.AckLoad word ∷ []) × (r ≡ Ok (ack_answer old word))
  pub label : IfOk r (λ effect. new.label
      ≡ label_after_effect old.link.given.params old.label effect)
  pub acts : IfOk r (λ effect. new.acts ≡ acts_after_effect old.acts effect)

-- the first close is one store
pub record CloseCall (r : Result Effect AllocError) (old new : WordSendView) : Type 0 where
  pub answer : r ≡ Ok (if old.sent.closed then Nothing else Closed)
  pub steps : new.steps
      ≡ old.steps ++ (if old.sent.closed then [] else send_step.CloseStore ∷ [])
  pub rest : new ≡ record old { sent = new.sent; steps = new.steps }

-- ---- the receiver's calls

-- the answer where a load shows this frame word, and the label that the receiver then remembers
abbrev pub frame_answer : ℕ → FrameWord → FrameSeen
frame_answer label frame.Empty = seen.Nothing
frame_answer label (frame.Full f) = if f.label == label then seen.Old else seen.Fresh f.item
frame_answer label frame.Closed = seen.Closed

abbrev pub label_after : ℕ → FrameWord → ℕ
label_after label frame.Empty = label
label_after label (frame.Full f) = f.label
label_after label frame.Closed = label

-- the answer where a look shows this frame word, and no load follows it: memory is refused only
-- where the word shows a frame with another label
abbrev pub LookAnswer : ℕ → FrameWord → Result FrameSeen AllocError → Type 0
LookAnswer label frame.Empty r = r ≡ Ok seen.Nothing
LookAnswer label (frame.Full f) r =
    ((f.label ≡ label) × (r ≡ Ok seen.Old)) ⊎ ((f.label ≢ label) × IsErr r)
LookAnswer label frame.Closed r = r ≡ Ok seen.Closed

-- from one label to the next, by the steps of one call on a link whose close was not seen: one
-- load; or a look; or a look that shows a frame with another label, and then one load
abbrev pub FrameSteps : ℕ → ℕ → List RecvStep → Result FrameSeen AllocError → Type 0
FrameSteps old new (recv_step.FrameLoad word ∷ []) r =
    (new ≡ label_after old word) × (r ≡ Ok (frame_answer old word))
FrameSteps old new (recv_step.FrameLook word ∷ []) r = (new ≡ old) × LookAnswer old word r
FrameSteps old new (recv_step.FrameLook (frame.Full f) ∷ recv_step.FrameLoad word ∷ []) r =
    (f.label ≢ old) × (new ≡ label_after old word) × (r ≡ Ok (frame_answer old word))
FrameSteps old new steps r = ⊥

-- a look for a frame makes no step once the close was seen; refused, it changes the steps alone
pub record PollFrameCall (r : Result FrameSeen AllocError) (old new : WordRecvView) : Type 0 where
  pub unchanged : OnErr r (new ≡ record old { steps = new.steps })
  pub closed : old.received.closed ≡ true → (r ≡ Ok seen.Closed) × (new ≡ old)
  pub still_open : old.received.closed ≡ false → (steps : List RecvStep)
      × (new.steps ≡ old.steps ++ steps) × FrameSteps old.label new.label steps r
  pub acts : IfOk r (λ answer. new.acts ≡ acts_after_seen old.acts answer)

-- the label is stored, or dropped, by the next act, until the close is seen
pub record SendAckCall (r : Result Effect AllocError) (old new : WordRecvView) : Type 0 where
  pub answer : r ≡ Ok (put_where (not old.received.closed) old.acts)
  pub acts : new.acts ≡ acts_put_where (not old.received.closed) old.acts
  pub steps : new.steps ≡ old.steps ++ steps_where (not old.received.closed) old.acts
      (recv_step.AckStore old.label)
  pub label : new.label ≡ old.label
