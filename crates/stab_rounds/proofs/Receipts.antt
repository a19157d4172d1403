-- While an item waits, c + 1 frames and then c + 1 acknowledgements bring its acknowledgement,
-- whatever is lost.
use Rattle.std.proofs.Common.{◌≡◌, inl, inr, ℕ, zero, suc, ◌+◌, ◌*◌, ◌≤◌, ◌==◌, ◌&&◌, true, false, List, [], ◌∷◌, ◌++◌, length, slice_get, refl, sym, ◌∙◌, ap, subst, arith}
use Rattle.std.proofs.lemmas.Bool.{cond_both, cond-false, cond-true, cases_Bool}
use Rattle.stab_frames.specs.declared.frame.Frame.{Frame}
use Rattle.stab_frames.specs.Parameters.{Parameters}
use Rattle.stab_core.specs.declared.event.Event.{Event}
use Rattle.stab_core.specs.declared.event.Event.TheVariants as event
use Rattle.stab_core.specs.declared.event.Effect.{Effect}
use Rattle.stab_core.specs.declared.event.Effect.TheVariants as had
use Rattle.stab_core.specs.LinkState.{LinkState, is_holding}
use Rattle.stab_core.specs.Step.{open_step, step, open_effect, frame_effect, ack_effect, receives_frame, receives_ack}
use Rattle.stab_core.specs.Replay.{replay}
use Rattle.stab_core.proofs.Growing.{of_both}
use Rattle.stab_core.proofs.Replays.{replay-append}
use Rattle.stab_rounds.specs.Rounds.{IsWithin}
use Rattle.stab_rounds.specs.Receipts.{was_there, frames_by, frames_received, acks_by, acks_received}
use Rattle.stab_rounds.proofs.Entries.{from_end}
use Rattle.stab_rounds.proofs.Levels.{IsLabel, idle, outward, arrived, Level, Arrived, Holding, Stable, both_stable, holding_stable, arrived_stable, level_stable, level_positive, any_level}
use Rattle.stab_rounds.proofs.Steps.{Moves, accepts, stays, kept, within_step, replay_grows}
use Rattle.stab_rounds.proofs.Midway.{take_frame, hear_ack, Taken}

module _ (p : Parameters) where
  -- an event of any link
  step_moves : {Q : LinkState → Type 0} → Stable p Q → (s : LinkState) (e : Event) → IsWithin p s → Q s → Moves s (step p s e) Q
  step_moves {Q} q s e within has =
      cond_both s.closed s (open_step p s e) (λ t. Moves s t Q) (λ _. stays refl has) (λ _. kept q s e within has)

  -- what events bring: an item more is acknowledged, or none is and this holds
  pub data Brings (s t : LinkState) (Q : LinkState → Type 0) : Type 0 where
    brought : s.acked + 1 ≤ t.acked → Brings s t Q
    not_yet : t.acked ≡ s.acked → Q t → Brings s t Q

  -- after an event that acknowledges the rest acknowledges no fewer
  later : {Q : LinkState → Type 0} (s t : LinkState) (es : List Event) → IsWithin p t → t.acked ≡ s.acked + 1 → Brings s (replay p t es) Q
  later s t es within acked = brought (omega (arith, replay_grows p t es within))

  same_start : {Q : LinkState → Type 0} (s t u : LinkState) → t.acked ≡ s.acked → Brings t u Q → Brings s u Q
  same_start s t u same (brought more) = brought (omega arith)
  same_start s t u same (not_yet still has) = not_yet (still ∙ same) has

  -- what is stable stays
  stable_over : {Q : LinkState → Type 0} → Stable p Q → (s : LinkState) (es : List Event) → IsWithin p s → Q s → Brings s (replay p s es) Q
  stable_over q s [] within has = not_yet refl has
  stable_over {Q} q s (e ∷ es) within has =
      elim (step_moves q s e within has) [
        | accepts acked ↦ later s (step p s e) es (within_step p s e within) acked
        | stays same has_now ↦
            same_start s (step p s e) (replay p (step p s e) es) same
            (stable_over q (step p s e) es (within_step p s e within) has_now)
      ]

  -- ---- frames

  -- a frame is there, or nothing happens
  pub data Front (s t : LinkState) (count : ℕ) (Some : Type 0) : Type 0 where
    nothing : count ≡ 0 → t ≡ s → Front s t count Some
    one : count ≡ 1 → Some → Front s t count Some

  frame_front : (s : LinkState) (frames : List Frame)
      → Front (record s { frames = frames }) (receives_frame false (record s { frames = frames }) (slice_get frames 0))
      (was_there (frame_effect (record s { frames = frames }) (slice_get frames 0))) (1 ≤ length frames)
  frame_front s [] = nothing refl refl
  frame_front s (f ∷ fs) =
      one (of_both (λ (e : Effect). was_there e ≡ 1) (f.label == s.recv_label) had.Old (had.Fresh f.item) refl refl) (omega arith)

  ack_front : (s : LinkState) (acks : List ℕ)
      → Front (record s { acks = acks }) (receives_ack p false (record s { acks = acks }) (slice_get acks 0))
      (was_there (ack_effect (record s { acks = acks }) (slice_get acks 0))) (1 ≤ length acks)
  ack_front s [] = nothing refl refl
  ack_front s (a ∷ rest) =
      one (of_both (λ (e : Effect). was_there e ≡ 1) (is_holding s && (a == s.send_label)) had.Acked had.Ignored refl refl) (omega arith)

  -- what an event that receives does: nothing, or it takes a message that is there
  taken_frame : (s : LinkState) → Front s (step p s (event.RecvFrame false)) (frames_by p s (event.RecvFrame false)) ((s.closed ≡ false) × (1 ≤ length s.frames))
  taken_frame s =
      elim (cases_Bool s.closed) [
        | inl closed ↦
            nothing (ap was_there (cond-true s.closed had.Nothing (open_effect p s (event.RecvFrame false)) closed))
            (cond-true s.closed s (open_step p s (event.RecvFrame false)) closed)
        | inr is_open ↦
            let e = cond-false s.closed had.Nothing (open_effect p s (event.RecvFrame false)) is_open in
            let t = cond-false s.closed s (open_step p s (event.RecvFrame false)) is_open in
            elim (frame_front s s.frames) [
              | nothing none same ↦ nothing (ap was_there e ∙ none) (t ∙ same)
              | one count some ↦ one (ap was_there e ∙ count) (is_open, some)
            ]
      ]

  taken_ack : (s : LinkState) → Front s (step p s (event.RecvAck false)) (acks_by p s (event.RecvAck false)) ((s.closed ≡ false) × (1 ≤ length s.acks))
  taken_ack s =
      elim (cases_Bool s.closed) [
        | inl closed ↦
            nothing (ap was_there (cond-true s.closed had.Nothing (open_effect p s (event.RecvAck false)) closed))
            (cond-true s.closed s (open_step p s (event.RecvAck false)) closed)
        | inr is_open ↦
            let e = cond-false s.closed had.Nothing (open_effect p s (event.RecvAck false)) is_open in
            let t = cond-false s.closed s (open_step p s (event.RecvAck false)) is_open in
            elim (ack_front s s.acks) [
              | nothing none same ↦ nothing (ap was_there e ∙ none) (t ∙ same)
              | one count some ↦ one (ap was_there e ∙ count) (is_open, some)
            ]
      ]

  -- the item has arrived, with any number of acknowledgements before its own
  abbrev Here : LinkState → Type 0
  Here t = (k : ℕ) × Arrived k t

  abbrev Out : ℕ → LinkState → Type 0
  Out k s = Level p k s × Holding s

  out_stable : (k : ℕ) → Stable p (Out k)
  out_stable k = both_stable (level_stable p k) (holding_stable p)

  here_over : (k : ℕ) (s : LinkState) (es : List Event) → IsWithin p s → Arrived k s → Brings s (replay p s es) Here
  here_over k s es within here =
      elim (stable_over (arrived_stable p k) s es within here) [
        | brought more ↦ brought more
        | not_yet still has ↦ not_yet still (k, has)
      ]

  -- where as many are left as there can be acknowledgements, it has arrived
  all_out : (k : ℕ) (s : LinkState) → k ≤ p.capacity → Out k s → Here s
  all_out k s few (idle none _, holds) = absurd (omega arith)
  all_out k s few (outward before _ _ enough, holds) = absurd (omega arith)
  all_out k s few (arrived here, holds) = (k, here)

  abbrev FramesBring : List Event → Type 0
  FramesBring es =
      (k : ℕ) (s : LinkState) → IsWithin p s → Out k s → k ≤ frames_received p s es + p.capacity → Brings s (replay p s es) Here

  -- an event that receives no frame
  other_event : (e : Event) (es : List Event) → FramesBring es → (k : ℕ) (s : LinkState) → IsWithin p s → Out k s
      → k ≤ frames_received p (step p s e) es + p.capacity → Brings s (replay p (step p s e) es) Here
  other_event e es more k s within out enough =
      elim (step_moves (out_stable k) s e within out) [
        | accepts acked ↦ later s (step p s e) es (within_step p s e within) acked
        | stays same now ↦
            same_start s (step p s e) (replay p (step p s e) es) same
            (more k (step p s e) (within_step p s e within) now enough)
      ]

  -- an event that does
  frame_event : (es : List Event) → FramesBring es → (k : ℕ) (s : LinkState) → IsWithin p s → Out k s → s.closed ≡ false → 1 ≤ length s.frames
      → k ≤ 1 + frames_received p (step p s (event.RecvFrame false)) es + p.capacity
      → Brings s (replay p (step p s (event.RecvFrame false)) es) Here
  frame_event es more zero s within (level, holds) is_open some enough = absurd (omega (arith, level_positive p.capacity 0 level))
  frame_event es more (suc m) s within (level, holds) is_open some enough =
      let e : Event = event.RecvFrame false in
      let t : LinkState = step p s e in
      let is : t ≡ open_step p s e = cond-false s.closed s (open_step p s e) is_open in
      let moves : Moves s t (λ x. Taken p m x × Holding x) =
      subst (λ x. Moves s x (λ y. Taken p m y × Holding y)) (sym is)
      (both_moves (open_step p s e) (take_frame p m s s.frames within holds level some) (kept (holding_stable p) s e within holds)) in
      elim moves [
        | accepts acked ↦ later s t es (within_step p s e within) acked
        | stays same now ↦
            elim now.0 [
              | inl level_now ↦
                  same_start s t (replay p t es) same (more m t (within_step p s e within) (level_now, now.1) (omega arith))
              | inr here ↦ same_start s t (replay p t es) same (here_over (suc m) t es (within_step p s e within) here)
            ]
      ]
    where
      both_moves : {Q R : LinkState → Type 0} (t : LinkState) → Moves s t Q → Moves s t R → Moves s t (λ x. Q x × R x)
      both_moves t (accepts acked) _ = accepts acked
      both_moves t (stays same q) (accepts acked) = accepts acked
      both_moves t (stays same q) (stays _ r) = stays same (q, r)

  frames_bring : (es : List Event) → FramesBring es
  frames_bring [] k s within out enough = not_yet refl (all_out k s (omega arith) out)
  frames_bring (event.RecvFrame false ∷ es) k s within out enough =
      elim (taken_frame s) [
        | nothing none same ↦ other_event (event.RecvFrame false) es (frames_bring es) k s within out (omega arith)
        | one count some ↦ frame_event es (frames_bring es) k s within out some.0 some.1 (omega arith)
      ]
  frames_bring (event.RecvFrame true ∷ es) k s within out enough =
      other_event (event.RecvFrame true) es (frames_bring es) k s within out (omega arith)
  frames_bring (event.Offer item ∷ es) k s within out enough = other_event (event.Offer item) es (frames_bring es) k s within out (omega arith)
  frames_bring (event.SendFrame ∷ es) k s within out enough = other_event event.SendFrame es (frames_bring es) k s within out (omega arith)
  frames_bring (event.SendAck ∷ es) k s within out enough = other_event event.SendAck es (frames_bring es) k s within out (omega arith)
  frames_bring (event.RecvAck keep ∷ es) k s within out enough = other_event (event.RecvAck keep) es (frames_bring es) k s within out (omega arith)
  frames_bring (event.LoseFrame i ∷ es) k s within out enough = other_event (event.LoseFrame i) es (frames_bring es) k s within out (omega arith)
  frames_bring (event.LoseAck i ∷ es) k s within out enough = other_event (event.LoseAck i) es (frames_bring es) k s within out (omega arith)
  frames_bring (event.Close ∷ es) k s within out enough = other_event event.Close es (frames_bring es) k s within out (omega arith)

  -- ---- acknowledgements

  abbrev AcksBring : List Event → Type 0
  AcksBring es = (k : ℕ) (s : LinkState) → IsWithin p s → Arrived k s → k ≤ acks_received p s es → s.acked + 1 ≤ (replay p s es).acked

  other_ack : (e : Event) (es : List Event) → AcksBring es → (k : ℕ) (s : LinkState) → IsWithin p s → Arrived k s
      → k ≤ acks_received p (step p s e) es → s.acked + 1 ≤ (replay p (step p s e) es).acked
  other_ack e es more k s within here enough =
      elim (step_moves (arrived_stable p k) s e within here) [
        | accepts acked ↦ omega (arith, replay_grows p (step p s e) es (within_step p s e within))
        | stays same now ↦ omega (arith, more k (step p s e) (within_step p s e within) now enough)
      ]

  ack_event : (es : List Event) → AcksBring es → (k : ℕ) (s : LinkState) → IsWithin p s → Arrived k s → s.closed ≡ false → 1 ≤ length s.acks
      → k ≤ 1 + acks_received p (step p s (event.RecvAck false)) es → s.acked + 1 ≤ (replay p (step p s (event.RecvAck false)) es).acked
  ack_event es more zero s within here is_open some enough = absurd (let positive = here.enough in omega arith)
  ack_event es more (suc m) s within here is_open some enough =
      let e : Event = event.RecvAck false in
      let t : LinkState = step p s e in
      let moves : Moves s t (Arrived m) =
      subst (λ x. Moves s x (Arrived m)) (sym (cond-false s.closed s (open_step p s e) is_open)) (hear_ack p m s s.acks here some) in
      elim moves [
        | accepts acked ↦ omega (arith, replay_grows p t es (within_step p s e within))
        | stays same now ↦ omega (arith, more m t (within_step p s e within) now (omega arith))
      ]

  acks_bring : (es : List Event) → AcksBring es
  acks_bring [] k s within here enough = absurd (let positive = here.enough in omega arith)
  acks_bring (event.RecvAck false ∷ es) k s within here enough =
      elim (taken_ack s) [
        | nothing none same ↦ other_ack (event.RecvAck false) es (acks_bring es) k s within here (omega arith)
        | one count some ↦ ack_event es (acks_bring es) k s within here some.0 some.1 (omega arith)
      ]
  acks_bring (event.RecvAck true ∷ es) k s within here enough = other_ack (event.RecvAck true) es (acks_bring es) k s within here (omega arith)
  acks_bring (event.Offer item ∷ es) k s within here enough = other_ack (event.Offer item) es (acks_bring es) k s within here (omega arith)
  acks_bring (event.SendFrame ∷ es) k s within here enough = other_ack event.SendFrame es (acks_bring es) k s within here (omega arith)
  acks_bring (event.RecvFrame keep ∷ es) k s within here enough = other_ack (event.RecvFrame keep) es (acks_bring es) k s within here (omega arith)
  acks_bring (event.SendAck ∷ es) k s within here enough = other_ack event.SendAck es (acks_bring es) k s within here (omega arith)
  acks_bring (event.LoseFrame i ∷ es) k s within here enough = other_ack (event.LoseFrame i) es (acks_bring es) k s within here (omega arith)
  acks_bring (event.LoseAck i ∷ es) k s within here enough = other_ack (event.LoseAck i) es (acks_bring es) k s within here (omega arith)
  acks_bring (event.Close ∷ es) k s within here enough = other_ack event.Close es (acks_bring es) k s within here (omega arith)

  -- whatever arrived has at most c acknowledgements before its own
  few_before : (k : ℕ) (s : LinkState) → IsWithin p s → Arrived k s → Arrived (p.capacity + 1) s
  few_before k s within here =
      record {
        before = p.capacity;
        holds = here.holds;
        all_frames = here.all_frames;
        taken = here.taken;
        enough = omega arith;
        later_acks = from_end (IsLabel s.send_label) p.capacity s.acks within.acks;
      }

  replay_within : (s : LinkState) (es : List Event) → IsWithin p s → IsWithin p (replay p s es)
  replay_within s [] within = within
  replay_within s (e ∷ es) within = replay_within (step p s e) es (within_step p s e within)

  -- c + 1 frames, and then c + 1 acknowledgements
  pub receipts_bring : (s : LinkState) (first second : List Event) → IsWithin p s → Holding s
      → p.capacity + 1 ≤ frames_received p s first → p.capacity + 1 ≤ acks_received p (replay p s first) second
      → s.acked + 1 ≤ (replay p s (first ++ second)).acked
  receipts_bring s first second within holds frames acks =
      let middle : LinkState = replay p s first in
      let within_middle : IsWithin p middle = replay_within s first within in
      let joined : (replay p s (first ++ second)).acked ≡ (replay p middle second).acked = ap (λ (t : LinkState). t.acked) (replay-append p s first second) in
      let level : Level p (2 * p.capacity + 1) s = any_level p (2 * p.capacity + 1) s within (omega arith) in
      elim (frames_bring first (2 * p.capacity + 1) s within (level, holds) (omega arith)) [
        | brought more ↦ omega (arith, replay_grows p middle second within_middle)
        | not_yet still has ↦
            let (k, here) = has in
            omega (arith, acks_bring second (p.capacity + 1) middle within_middle (few_before k middle within_middle here) acks)
      ]
