-- The labels on the circle that are not the sender's never become more, and each acknowledgement
-- that is ignored takes one away.
use Rattle.std.proofs.Common.{◌≡◌, ◌≢◌, ◌⊎◌, inl, inr, ℕ, zero, suc, ◌+◌, ◌-◌, ◌*◌, ◌≤◌, max, ◌==◌, ◌&&◌, true, false, List, [], ◌∷◌, ◌++◌, length, slice_get, nat_lt, Option, Some, None, refl, sym, ◌∙◌, ap, subst, subst₂, arith, if◌then◌else◌, eqb-true, eq-eqb, ne_eqb}
use Rattle.std.proofs.lemmas.Bool.{cases_Bool, cond_both, cond-true, cond-false, and_from}
use Rattle.stab_frames.specs.declared.frame.Frame.{Frame}
use Rattle.stab_frames.specs.Parameters.{Parameters}
use Rattle.stab_frames.specs.Queue.{without}
use Rattle.stab_core.specs.declared.event.Event.{Event}
use Rattle.stab_core.specs.declared.event.Event.TheVariants as event
use Rattle.stab_core.specs.declared.event.Effect.{Effect}
use Rattle.stab_core.specs.declared.event.Effect.TheVariants as had
use Rattle.stab_core.specs.LinkState.{LinkState, is_idle, is_holding, current_frame, has_room}
use Rattle.stab_core.specs.Step.{open_step, step, effect, open_effect, frame_effect, ack_effect, receives_frame, receives_ack}
use Rattle.stab_core.specs.Replay.{replay}
use Rattle.stab_core.proofs.Growing.{of_both}
use Rattle.stab_rounds.specs.Rounds.{IsWithin}
use Rattle.stab_rounds.specs.Receipts.{was_there}
use Rattle.stab_rounds.specs.Ignored.{owed_after, MayCome, AnswersOnce, is_ignored, ignored_among}
use Rattle.stab_rounds.proofs.Levels.{Holding, holding_stable}
use Rattle.stab_rounds.proofs.Steps.{Moves, accepts, stays, kept, within_step, step_grows, replay_grows}

-- one for a label that is not this one
abbrev other : ℕ → ℕ → ℕ
other label x = if x == label then 0 else 1

abbrev others : ℕ → List ℕ → ℕ
others label [] = 0
others label (x ∷ xs) = other label x + others label xs

other_few : (label x : ℕ) → other label x ≤ 1
other_few label x = of_both (λ (n : ℕ). n ≤ 1) (x == label) 0 1 (omega arith) (omega arith)

others_few : (label : ℕ) (xs : List ℕ) → others label xs ≤ length xs
others_few label [] = omega arith
others_few label (x ∷ xs) = omega (arith, other_few label x, others_few label xs)

others_push : (label : ℕ) (xs : List ℕ) (y : ℕ) → others label (xs ++ y ∷ []) ≡ others label xs + other label y
others_push label [] y = omega arith
others_push label (x ∷ xs) y = omega (arith, others_push label xs y)

others_without : (label i : ℕ) (xs : List ℕ) → others label (without i xs) ≤ others label xs
others_without label i [] = omega arith
others_without label zero (x ∷ xs) = omega arith
others_without label (suc i) (x ∷ xs) = omega (arith, others_without label i xs)

own_label : (label : ℕ) → other label label ≡ 0
own_label label = let same : (label == label) ≡ true = eq-eqb _ _ refl in rw same refl

not_own : (label x : ℕ) → x ≢ label → other label x ≡ 1
not_own label x differs = let test : (x == label) ≡ false = ne_eqb _ _ differs in rw test refl

-- the same of frames
abbrev frame_others : ℕ → List Frame → ℕ
frame_others label [] = 0
frame_others label (f ∷ fs) = other label f.label + frame_others label fs

frame_others_few : (label : ℕ) (fs : List Frame) → frame_others label fs ≤ length fs
frame_others_few label [] = omega arith
frame_others_few label (f ∷ fs) = omega (arith, other_few label f.label, frame_others_few label fs)

frame_others_push : (label : ℕ) (fs : List Frame) (g : Frame) → frame_others label (fs ++ g ∷ []) ≡ frame_others label fs + other label g.label
frame_others_push label [] g = omega arith
frame_others_push label (f ∷ fs) g = omega (arith, frame_others_push label fs g)

frame_others_without : (label i : ℕ) (fs : List Frame) → frame_others label (without i fs) ≤ frame_others label fs
frame_others_without label i [] = omega arith
frame_others_without label zero (f ∷ fs) = omega arith
frame_others_without label (suc i) (f ∷ fs) = omega (arith, frame_others_without label i fs)

-- the label that is still to be answered
abbrev owing : ℕ → ℕ → ℕ → ℕ
owing label recv zero = 0
owing label recv (suc owed) = other label recv

-- the labels on the circle that are not the sender's
abbrev circle : ℕ → LinkState → ℕ
circle owed s = frame_others s.send_label s.frames + others s.send_label s.acks + owing s.send_label s.recv_label owed

-- what an event leaves of them, where no item is acknowledged
abbrev Fewer : ℕ → LinkState → ℕ → LinkState → ℕ → Type 0
Fewer owed s owed_now t ignored = (t.acked ≡ s.acked + 1) ⊎ (circle owed_now t + ignored ≤ circle owed s)

owing_at_most : (label recv owed : ℕ) → owing label recv owed ≤ other label recv
owing_at_most label recv zero = omega arith
owing_at_most label recv (suc owed) = omega arith

module _ (p : Parameters) where
  -- a frame is taken
  frame_fewer : (owed : ℕ) (s : LinkState) (frames : List Frame)
      → let t = record s { frames = frames } in
      circle (max owed (was_there (frame_effect t (slice_get frames 0)))) (receives_frame false t (slice_get frames 0)) ≤ circle owed t
  frame_fewer owed s [] = subst (λ n. circle n (record s { frames = [] }) ≤ circle owed (record s { frames = [] })) (let e : owed ≡ max owed 0 = omega arith in e) (omega arith)
  frame_fewer owed s (f ∷ fs) =
      elim (cases_Bool (f.label == s.recv_label)) [
        | inl old ↦
            let same : f.label ≡ s.recv_label = eqb-true _ _ old in
            rw old (owed_one owed (λ n. frame_others s.send_label fs + others s.send_label s.acks + owing s.send_label s.recv_label n
            ≤ circle owed (record s { frames = f ∷ fs })) (omega (arith, ap (other s.send_label) same)))
        | inr fresh ↦
            rw fresh (owed_one owed (λ n. frame_others s.send_label fs + others s.send_label s.acks + owing s.send_label f.label n
            ≤ circle owed (record s { frames = f ∷ fs })) (omega arith))
      ]
    where
      owed_one : (owed : ℕ) (P : ℕ → Type 0) → ((P (suc (owed - 1)))) → P (max owed 1)
      owed_one owed P holds = subst P (let e : suc (owed - 1) ≡ max owed 1 = omega arith in e) holds

  -- no frame is an acknowledgement
  frame_not_ignored : (s : LinkState) (front : Option Frame) → is_ignored (frame_effect s front) ≡ 0
  frame_not_ignored s None = refl
  frame_not_ignored s (Some f) = of_both (λ (h : Effect). is_ignored h ≡ 0) (f.label == s.recv_label) had.Old (had.Fresh f.item) refl refl

  -- an acknowledgement is taken: it is accepted, or one of another label is gone
  ack_fewer : (owed : ℕ) (s : LinkState) (acks : List ℕ) → Holding s
      → let t = record s { acks = acks } in
      Fewer owed t owed (receives_ack p false t (slice_get acks 0)) (is_ignored (ack_effect t (slice_get acks 0)))
  ack_fewer owed s [] holds = inr (omega arith)
  ack_fewer owed s (a ∷ rest) holds =
      elim (cases_Bool (is_holding s && (a == s.send_label))) [
        | inl accepted ↦ rw accepted (inl refl)
        | inr ignored ↦
            let differs : a ≢ s.send_label =
            λ same. (let yes : (is_holding s && (a == s.send_label)) ≡ true =
            and_from (is_holding s) (a == s.send_label) (eq-eqb _ _ holds) (eq-eqb _ _ same) in
            let never : true ≡ false = sym yes ∙ ignored in cc) in
            rw ignored (inr (omega (arith, not_own s.send_label a differs)))
      ]

  -- what holds of a closed link and of the step of an open one holds of the step
  either : (s : LinkState) (e : Event) (P : LinkState → Effect → Type 0) → P s had.Nothing → P (open_step p s e) (open_effect p s e)
      → P (step p s e) (effect p s e)
  either s e P of_closed of_open =
      elim (cases_Bool s.closed) [
        | inl closed ↦
            subst₂ P (sym (cond-true s.closed s (open_step p s e) closed)) (sym (cond-true s.closed had.Nothing (open_effect p s e) closed)) of_closed
        | inr is_open ↦
            subst₂ P (sym (cond-false s.closed s (open_step p s e) is_open)) (sym (cond-false s.closed had.Nothing (open_effect p s e) is_open)) of_open
      ]

  -- one event
  event_fewer : (owed : ℕ) (s : LinkState) (e : Event) → Holding s → MayCome owed e
      → Fewer owed s (owed_after p owed s e) (step p s e) (is_ignored (effect p s e))
  event_fewer owed s (event.Offer item) holds may =
      either s (event.Offer item) (λ t h. Fewer owed s owed t (is_ignored h)) (inr (omega arith))
      (let busy : is_idle s ≡ false = ne_eqb _ _ (λ idle. omega arith) in rw busy (inr (omega arith)))
  event_fewer owed s event.SendFrame holds may =
      either s event.SendFrame (λ t h. Fewer owed s owed t (is_ignored h)) (inr (omega arith))
      (let sends : is_holding s ≡ true = eq-eqb _ _ holds in
      elim (cases_Bool (has_room p s.frames)) [
        | inl room ↦ rw (sends, room) (inr (omega (arith, frame_others_push s.send_label s.frames (current_frame s), own_label s.send_label)))
        | inr full ↦ rw (sends, full) (inr (omega arith))
      ])
  event_fewer owed s (event.RecvFrame true) holds may = absurd may
  event_fewer owed s (event.RecvFrame false) holds may =
      either s (event.RecvFrame false) (λ t h. Fewer owed s (max owed (was_there h)) t (is_ignored h))
      (inr (subst (λ n. circle n s + 0 ≤ circle owed s) (let e : owed ≡ max owed 0 = omega arith in e) (omega arith)))
      (inr (omega (arith, frame_fewer owed s s.frames, frame_not_ignored s (slice_get s.frames 0))))
  event_fewer zero s event.SendAck holds may = absurd (omega arith)
  event_fewer (suc owed) s event.SendAck holds may =
      either s event.SendAck (λ t h. Fewer (suc owed) s 0 t (is_ignored h)) (inr (omega arith))
      (elim (cases_Bool (has_room p s.acks)) [
        | inl room ↦ rw room (inr (omega (arith, others_push s.send_label s.acks s.recv_label)))
        | inr full ↦ rw full (inr (omega arith))
      ])
  event_fewer owed s (event.RecvAck true) holds may = absurd may
  event_fewer owed s (event.RecvAck false) holds may =
      either s (event.RecvAck false) (λ t h. Fewer owed s owed t (is_ignored h)) (inr (omega arith)) (ack_fewer owed s s.acks holds)
  event_fewer owed s (event.LoseFrame place) holds may =
      either s (event.LoseFrame place) (λ t h. Fewer owed s owed t (is_ignored h)) (inr (omega arith))
      (inr (omega (
        arith,
        frame_others_without s.send_label place s.frames,
        of_both (λ (h : Effect). is_ignored h ≡ 0) (nat_lt place (length s.frames)) had.Lost had.Nothing refl refl,
      )))
  event_fewer owed s (event.LoseAck place) holds may =
      either s (event.LoseAck place) (λ t h. Fewer owed s owed t (is_ignored h)) (inr (omega arith))
      (inr (omega (
        arith,
        others_without s.send_label place s.acks,
        of_both (λ (h : Effect). is_ignored h ≡ 0) (nat_lt place (length s.acks)) had.Lost had.Nothing refl refl,
      )))
  event_fewer owed s event.Close holds may =
      either s event.Close (λ t h. Fewer owed s owed t (is_ignored h)) (inr (omega arith)) (inr (omega arith))

  -- an item still waits where none was acknowledged
  holds_step : (s : LinkState) (e : Event) → IsWithin p s → Holding s → (step p s e).acked ≡ s.acked → Holding (step p s e)
  holds_step s e within holds same =
      still_holds (cond_both s.closed s (open_step p s e) (λ t. Moves s t Holding) (λ _. stays refl holds) (λ _. kept (holding_stable p) s e within holds))
    where
      still_holds : Moves s (step p s e) Holding → Holding (step p s e)
      still_holds (accepts more) = absurd (omega arith)
      still_holds (stays _ has) = has

  -- all events
  ignored_few : (es : List Event) (owed : ℕ) (s : LinkState) → IsWithin p s → Holding s → AnswersOnce p owed s es → (replay p s es).acked ≡ s.acked
      → ignored_among p s es ≤ circle owed s
  ignored_few [] owed s within holds once same = omega arith
  ignored_few (e ∷ es) owed s within holds (may, once) same =
      let t : LinkState = step p s e in
      let grows = step_grows p s e within in
      let later = replay_grows p t es (within_step p s e within) in
      let unchanged : t.acked ≡ s.acked = omega arith in
      elim (event_fewer owed s e holds may) [
        | inl more ↦ absurd (omega arith)
        | inr fewer ↦
            let rest = ignored_few es (owed_after p owed s e) t (within_step p s e within) (holds_step s e within holds unchanged) once (omega arith) in
            omega arith
      ]

  -- while an item waits no more than 2c are ignored
  pub few_ignored : (s : LinkState) (events : List Event) → IsWithin p s → Holding s → AnswersOnce p 0 s events
      → (replay p s events).acked ≡ s.acked → ignored_among p s events ≤ 2 * p.capacity
  few_ignored s events within holds once same =
      let few = ignored_few events 0 s within holds once same in
      omega (arith, within.frames, within.acks, frame_others_few s.send_label s.frames, others_few s.send_label s.acks)
