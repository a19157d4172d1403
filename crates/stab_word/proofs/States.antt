-- Each kind of step on states: the events that it stands for, two at most, lead from the state before it to the state
-- after it.
use Rattle.std.proofs.Common.{◌≡◌, ℕ, List, ◌++◌, Bool, true, false, [], ◌∷◌, slice_get, refl, ◌∙◌, ap, if◌then◌else◌}
use Rattle.stab_frames.specs.declared.frame.Frame.{Frame}
use Rattle.stab_frames.specs.Queue.{without}
use Rattle.stab_core.specs.declared.event.Event.{Event}
use Rattle.stab_core.specs.declared.event.Event.TheVariants.{Offer, SendFrame, RecvFrame, SendAck, RecvAck, LoseFrame, LoseAck, Close}
use Rattle.stab_core.specs.LinkState.{LinkState, is_idle, is_holding, current_frame}
use Rattle.stab_core.specs.Replay.{initial, replay}
use Rattle.stab_core.specs.Step.{step, open_step, receives_ack, receives_frame, sees_ack, sees_frame}
use Rattle.stab_core.proofs.Replays.{replay_closed}
use Rattle.stab_core.specs.LinkSetup.{LinkSetup}
use Rattle.stab_word.specs.Interleaving.{Interleaved}
use Rattle.stab_word.specs.Words.{frames_of, is_closed_word}
use Rattle.stab_word.specs.declared.words.FrameWord.{FrameWord}
use Rattle.stab_word.specs.declared.words.FrameWord.TheVariants as frame
use Rattle.stab_word.specs.declared.words.AckWord.TheVariants as ack
use Rattle.stab_word.specs.declared.view.SendStep.{SendStep}
use Rattle.stab_word.specs.declared.view.SendStep.TheVariants as send_step
use Rattle.stab_word.specs.declared.view.RecvStep.{RecvStep}
use Rattle.stab_word.specs.declared.view.RecvStep.TheVariants as recv_step
use Rattle.stab_word.proofs.Interleavings.{sender_step, receiver_step}

-- an event of an open link whose step is known leads there
open_leads : (g : LinkSetup) (s after : LinkState) (e : Event) → s.closed ≡ false → open_step g.params s e ≡ after
    → step g.params s e ≡ after
open_leads g s after e still is = ap (λ (b : Bool). if b then s else open_step g.params s e) still ∙ is

-- two events, one after the other
both_lead : (g : LinkSetup) (s t after : LinkState) (e f : Event) → step g.params s e ≡ t → step g.params t f ≡ after
    → replay g.params s (e ∷ f ∷ []) ≡ after
both_lead g s t after e f first second = ap (λ u. step g.params u f) first ∙ second

-- LoseFrame 0, LoseAck 0: a lone frame or a lone acknowledgement is lost
frame_lost : (g : LinkSetup) (s : LinkState) → s.closed ≡ false → without 0 s.frames ≡ []
    → step g.params s (LoseFrame 0) ≡ record s { frames = [] }
frame_lost g s still lone =
    open_leads g s (record s { frames = [] }) (LoseFrame 0) still (ap (λ frames. record s { frames = frames }) lone)

ack_lost : (g : LinkSetup) (s : LinkState) → s.closed ≡ false → without 0 s.acks ≡ []
    → step g.params s (LoseAck 0) ≡ record s { acks = [] }
ack_lost g s still lone =
    open_leads g s (record s { acks = [] }) (LoseAck 0) still (ap (λ acks. record s { acks = acks }) lone)

module _ (g : LinkSetup) (xs : List SendStep) (ys : List RecvStep) (s : LinkState) (interleaved : Interleaved g xs ys s) where
  -- Offer: an idle sender takes an item
  pub offer_load : (item : ℕ) → s.closed ≡ false → is_idle s ≡ true
      → Interleaved g (xs ++ send_step.OfferLoad item ∷ []) ys (record s { offered = s.offered ++ item ∷ [] })
  offer_load item still idle =
      sender_step g xs ys s (record s { offered = s.offered ++ item ∷ [] }) (send_step.OfferLoad item) tt
      (open_leads g s (record s { offered = s.offered ++ item ∷ [] }) (Offer item) still (rw idle)) interleaved

  -- LoseFrame 0 and SendFrame: a sender whose item waits puts its frame in the place of a lone one
  pub frame_store : (f : Frame) → f ≡ current_frame s → g.params.capacity ≡ 1 → s.closed ≡ false → is_holding s ≡ true
      → without 0 s.frames ≡ []
      → Interleaved g (xs ++ send_step.FrameStore f ∷ []) ys (record s { frames = current_frame s ∷ [] })
  frame_store f current one still holds lone =
      sender_step g xs ys s (record s { frames = current_frame s ∷ [] }) (send_step.FrameStore f) current
      (both_lead g s (record s { frames = [] }) (record s { frames = current_frame s ∷ [] }) (LoseFrame 0) SendFrame
      (frame_lost g s still lone)
      (open_leads g (record s { frames = [] }) (record s { frames = current_frame s ∷ [] }) SendFrame still
      (rw (holds, one)))) interleaved

  -- LoseFrame 0 and Close: the close takes the place of a lone frame
  pub close_store : s.closed ≡ false → without 0 s.frames ≡ []
      → Interleaved g (xs ++ send_step.CloseStore ∷ []) ys (record s { frames = []; closed = true })
  close_store still lone =
      sender_step g xs ys s (record s { frames = []; closed = true }) send_step.CloseStore tt
      (both_lead g s (record s { frames = [] }) (record s { frames = []; closed = true }) (LoseFrame 0) Close
      (frame_lost g s still lone)
      (open_leads g (record s { frames = [] }) (record s { frames = []; closed = true }) Close still refl)) interleaved

  -- no event: the sender sees no acknowledgement
  pub ack_unseen : s.acks ≡ [] → Interleaved g (xs ++ send_step.AckLoad ack.Empty ∷ []) ys s
  ack_unseen none = sender_step g xs ys s s (send_step.AckLoad ack.Empty) none refl interleaved

  -- RecvAck that keeps the front: the sender sees the front acknowledgement
  pub ack_load : (label : ℕ) → s.closed ≡ false → s.acks ≡ label ∷ []
      → Interleaved g (xs ++ send_step.AckLoad (ack.Full label) ∷ []) ys (sees_ack g.params s label)
  ack_load label still front =
      sender_step g xs ys s (sees_ack g.params s label) (send_step.AckLoad (ack.Full label)) front
      (open_leads g s (sees_ack g.params s label) (RecvAck true) still
      (ap (λ acks. receives_ack g.params true s (slice_get acks 0)) front)) interleaved

  -- no event: the receiver sees no frame, or the close, or takes no frame
  pub frame_unseen : s.frames ≡ [] → s.closed ≡ false → Interleaved g xs (ys ++ recv_step.FrameLoad frame.Empty ∷ []) s
  frame_unseen none still = receiver_step g xs ys s s (recv_step.FrameLoad frame.Empty) (none, still) refl interleaved

  pub close_seen : s.frames ≡ [] → s.closed ≡ true → Interleaved g xs (ys ++ recv_step.FrameLoad frame.Closed ∷ []) s
  close_seen none closed = receiver_step g xs ys s s (recv_step.FrameLoad frame.Closed) (none, closed) refl interleaved

  pub frame_look : (word : FrameWord) → s.frames ≡ frames_of word → s.closed ≡ is_closed_word word
      → Interleaved g xs (ys ++ recv_step.FrameLook word ∷ []) s
  frame_look word shown closed = receiver_step g xs ys s s (recv_step.FrameLook word) (shown, closed) refl interleaved

  -- RecvFrame that keeps the front: the receiver sees the front frame
  pub frame_load : (f : Frame) → s.closed ≡ false → s.frames ≡ f ∷ []
      → Interleaved g xs (ys ++ recv_step.FrameLoad (frame.Full f) ∷ []) (sees_frame s f)
  frame_load f still front =
      receiver_step g xs ys s (sees_frame s f) (recv_step.FrameLoad (frame.Full f)) (front, still)
      (open_leads g s (sees_frame s f) (RecvFrame true) still
      (ap (λ frames. receives_frame true s (slice_get frames 0)) front)) interleaved

  -- LoseAck 0 and SendAck: the receiver's label takes the place of a lone one
  pub ack_store : (label : ℕ) → label ≡ s.recv_label → g.params.capacity ≡ 1 → s.closed ≡ false → without 0 s.acks ≡ []
      → Interleaved g xs (ys ++ recv_step.AckStore label ∷ []) (record s { acks = s.recv_label ∷ [] })
  ack_store label current one still lone =
      receiver_step g xs ys s (record s { acks = s.recv_label ∷ [] }) (recv_step.AckStore label) current
      (both_lead g s (record s { acks = [] }) (record s { acks = s.recv_label ∷ [] }) (LoseAck 0) SendAck
      (ack_lost g s still lone)
      (open_leads g (record s { acks = [] }) (record s { acks = s.recv_label ∷ [] }) SendAck still (rw one))) interleaved

  -- a closed link stays as it is
  pub late_ack_store : (label : ℕ) → label ≡ s.recv_label → s.closed ≡ true → Interleaved g xs (ys ++ recv_step.AckStore label ∷ []) s
  late_ack_store label current closed =
      receiver_step g xs ys s s (recv_step.AckStore label) current
      (replay_closed g.params s (LoseAck 0 ∷ SendAck ∷ []) closed) interleaved

-- the split of a seat: no step was made
pub seat_split : (g : LinkSetup) → Interleaved g [] [] (initial g.start)
seat_split g = record { steps = []; by_sender = refl; by_receiver = refl; fit = tt; leads = refl }
