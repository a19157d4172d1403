-- Every step keeps a link within its bounds.
use Rattle.std.proofs.Common.{◌≡◌, ◌==◌, ◌&&◌, ℕ, zero, suc, ◌+◌, ◌<◌, ◌≤◌, List, [], ◌∷◌, ◌++◌, length, slice_get, Bool, true, false, Option, Some, None, refl, ap, arith, ltb-true}
use Rattle.std.proofs.lemmas.Bool.{and_parts, cond_both, eqb-true}
use Rattle.std.proofs.lemmas.List.{length-append}
use Rattle.stab_frames.specs.declared.frame.Frame.{Frame}
use Rattle.stab_frames.specs.Parameters.{Parameters, next}
use Rattle.stab_frames.specs.Queue.{without}
use Rattle.stab_core.specs.declared.event.Event.{Event}
use Rattle.stab_core.specs.declared.event.Event.TheVariants as event
use Rattle.stab_core.specs.LinkState.{LinkState, is_idle, is_holding, current_frame, has_room}
use Rattle.stab_core.specs.Replay.{replay}
use Rattle.stab_core.specs.Step.{step, open_step, after_front, receives_frame, receives_ack}
use Rattle.stab_core.specs.Since.{IsBounded}

no_longer_without : {A : Type 0} (i : ℕ) (xs : List A) → length (without i xs) ≤ length xs
no_longer_without i [] = omega arith
no_longer_without zero (x ∷ xs) = omega arith
no_longer_without (suc i) (x ∷ xs) = omega (arith, no_longer_without i xs)

no_longer_front : {A : Type 0} (keep : Bool) (xs : List A) → length (after_front keep xs) ≤ length xs
no_longer_front true xs = omega arith
no_longer_front false [] = omega arith
no_longer_front false (x ∷ xs) = omega arith

-- queues that are within the capacity, with the same account
with_queues : (p : Parameters) (s t : LinkState) → IsBounded p s → length t.frames ≤ p.capacity → length t.acks ≤ p.capacity
    → t.offered ≡ s.offered → t.acked ≡ s.acked → IsBounded p t
with_queues p s t bounded frames acks offered acked =
    let were = bounded.acked_were_offered in
    let one = bounded.one_waits_at_most in
    let same = ap (λ xs. length xs) offered in
    record {
      lawful = record { frames = frames; acks = acks };
      acked_were_offered = omega arith;
      one_waits_at_most = omega arith;
    }

module _ (p : Parameters) where
  frame_bounded : (keep : Bool) (s : LinkState) (front : Option Frame) → IsBounded p s → IsBounded p (receives_frame keep s front)
  frame_bounded keep s None bounded = bounded
  frame_bounded keep s (Some f) bounded =
      let fewer = no_longer_front keep s.frames in
      let frames = bounded.lawful.frames in
      cond_both (f.label == s.recv_label) (record s { frames = after_front keep s.frames })
      (record s { frames = after_front keep s.frames; recv_label = f.label; delivered = s.delivered ++ f.item ∷ [] }) (IsBounded p)
      (λ _. with_queues p s _ bounded (omega arith) bounded.lawful.acks refl refl)
      (λ _. with_queues p s _ bounded (omega arith) bounded.lawful.acks refl refl)

  ack_bounded : (keep : Bool) (s : LinkState) (front : Option ℕ) → IsBounded p s → IsBounded p (receives_ack p keep s front)
  ack_bounded keep s None bounded = bounded
  ack_bounded keep s (Some label) bounded =
      let fewer = no_longer_front keep s.acks in
      let acks = bounded.lawful.acks in
      cond_both (is_holding s && (label == s.send_label))
      (record s { acks = after_front keep s.acks; acked = s.acked + 1; send_label = next p s.send_label })
      (record s { acks = after_front keep s.acks }) (IsBounded p)
      (λ accepted.
      let holds : length s.offered ≡ s.acked + 1 =
      eqb-true (length s.offered) (s.acked + 1) (and_parts (is_holding s) (label == s.send_label) accepted).0 in
      record {
        lawful = record { frames = bounded.lawful.frames; acks = omega arith };
        acked_were_offered = omega arith;
        one_waits_at_most = omega arith;
      })
      (λ _. with_queues p s _ bounded bounded.lawful.frames (omega arith) refl refl)

  open_bounded : (s : LinkState) (e : Event) → IsBounded p s → IsBounded p (open_step p s e)
  open_bounded s (event.Offer item) bounded =
      cond_both (is_idle s) (record s { offered = s.offered ++ item ∷ [] }) s (IsBounded p)
      (λ idle.
      let all : length s.offered ≡ s.acked = eqb-true (length s.offered) s.acked idle in
      let more : length (s.offered ++ item ∷ []) ≡ length s.offered + 1 = length-append s.offered (item ∷ []) in
      record {
        lawful = bounded.lawful;
        acked_were_offered = omega arith;
        one_waits_at_most = omega arith;
      })
      (λ _. bounded)
  open_bounded s event.SendFrame bounded =
      cond_both (is_holding s && has_room p s.frames) (record s { frames = s.frames ++ current_frame s ∷ [] }) s (IsBounded p)
      (λ sends.
      let room : length s.frames < p.capacity =
      ltb-true (length s.frames) p.capacity (and_parts (is_holding s) (has_room p s.frames) sends).1 in
      let more : length (s.frames ++ current_frame s ∷ []) ≡ length s.frames + 1 = length-append s.frames (current_frame s ∷ []) in
      with_queues p s _ bounded (omega arith) bounded.lawful.acks refl refl)
      (λ _. bounded)
  open_bounded s (event.RecvFrame keep) bounded = frame_bounded keep s (slice_get s.frames 0) bounded
  open_bounded s event.SendAck bounded =
      cond_both (has_room p s.acks) (record s { acks = s.acks ++ s.recv_label ∷ [] }) s (IsBounded p)
      (λ sends.
      let room : length s.acks < p.capacity = ltb-true (length s.acks) p.capacity sends in
      let more : length (s.acks ++ s.recv_label ∷ []) ≡ length s.acks + 1 = length-append s.acks (s.recv_label ∷ []) in
      with_queues p s _ bounded bounded.lawful.frames (omega arith) refl refl)
      (λ _. bounded)
  open_bounded s (event.RecvAck keep) bounded = ack_bounded keep s (slice_get s.acks 0) bounded
  open_bounded s (event.LoseFrame place) bounded =
      let fewer = no_longer_without place s.frames in
      let frames = bounded.lawful.frames in
      with_queues p s _ bounded (omega arith) bounded.lawful.acks refl refl
  open_bounded s (event.LoseAck place) bounded =
      let fewer = no_longer_without place s.acks in
      let acks = bounded.lawful.acks in
      with_queues p s _ bounded bounded.lawful.frames (omega arith) refl refl
  open_bounded s event.Close bounded = with_queues p s _ bounded bounded.lawful.frames bounded.lawful.acks refl refl

  step_bounded : (s : LinkState) (e : Event) → IsBounded p s → IsBounded p (step p s e)
  step_bounded s e bounded = cond_both s.closed s (open_step p s e) (IsBounded p) (λ _. bounded) (λ _. open_bounded s e bounded)

  pub replay_bounded : (s : LinkState) (es : List Event) → IsBounded p s → IsBounded p (replay p s es)
  replay_bounded s [] bounded = bounded
  replay_bounded s (e ∷ es) bounded = replay_bounded (step p s e) es (step_bounded s e bounded)
