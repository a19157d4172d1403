-- What an event leaves of a link: an item is acknowledged, or what is stable stays.
use Rattle.std.proofs.Common.{◌≡◌, inl, inr, ℕ, zero, suc, ◌+◌, ◌<◌, ◌≤◌, ◌==◌, ◌&&◌, Bool, true, false, List, [], ◌∷◌, ◌++◌, length, slice_get, refl, ◌∙◌, ap, arith, eqb-true, ltb-true}
use Rattle.std.proofs.lemmas.Bool.{cond_both, and_parts}
use Rattle.std.proofs.lemmas.List.{length_push}
use Rattle.stab_frames.specs.declared.frame.Frame.{Frame}
use Rattle.stab_frames.specs.Parameters.{Parameters}
use Rattle.stab_frames.specs.Queue.{without}
use Rattle.stab_core.specs.declared.event.Event.{Event}
use Rattle.stab_core.specs.declared.event.Event.TheVariants as event
use Rattle.stab_core.specs.LinkState.{LinkState, is_idle, is_holding, current_frame, has_room}
use Rattle.stab_core.specs.Step.{open_step, step, after_front, receives_frame, receives_ack}
use Rattle.stab_core.specs.Replay.{replay}
use Rattle.stab_rounds.specs.Rounds.{IsWithin}
use Rattle.stab_rounds.proofs.Levels.{Stable}

-- an item is acknowledged, or none is and this holds
pub data Moves (s t : LinkState) (Q : LinkState → Type 0) : Type 0 where
  accepts : t.acked ≡ s.acked + 1 → Moves s t Q
  stays : t.acked ≡ s.acked → Q t → Moves s t Q

pub moves_map : {s t : LinkState} {Q R : LinkState → Type 0} → (Q t → R t) → Moves s t Q → Moves s t R
moves_map f (accepts acked) = accepts acked
moves_map f (stays same has) = stays same (f has)

module _ {p : Parameters} {Q : LinkState → Type 0} (q : Stable p Q) where
  frame_received : (keep : Bool) (s : LinkState) (frames : List Frame) → Q (record s { frames = frames })
      → Moves s (receives_frame keep (record s { frames = frames }) (slice_get frames 0)) Q
  frame_received keep s [] has = stays refl has
  frame_received keep s (f ∷ fs) has =
      cond_both (f.label == s.recv_label) _ _ (λ t. Moves s t Q)
      (λ _. stays refl (q.old s keep f fs has)) (λ _. stays refl (q.fresh s keep f fs has))

  ack_received : (keep : Bool) (s : LinkState) (acks : List ℕ) → Q (record s { acks = acks })
      → Moves s (receives_ack p keep (record s { acks = acks }) (slice_get acks 0)) Q
  ack_received keep s [] has = stays refl has
  ack_received keep s (a ∷ rest) has =
      cond_both (is_holding s && (a == s.send_label)) _ _ (λ t. Moves s t Q)
      (λ _. accepts refl) (λ _. stays refl (q.ignored s keep a rest has))

  -- what is stable stays, where no item is acknowledged
  pub kept : (s : LinkState) (e : Event) → IsWithin p s → Q s → Moves s (open_step p s e) Q
  kept s (event.Offer item) within has =
      cond_both (is_idle s) (record s { offered = s.offered ++ item ∷ [] }) s (λ t. Moves s t Q)
      (λ none. stays refl (q.offer s item within (eqb-true _ _ none) has)) (λ _. stays refl has)
  kept s event.SendFrame within has =
      cond_both (is_holding s && has_room p s.frames) (record s { frames = s.frames ++ current_frame s ∷ [] }) s (λ t. Moves s t Q)
      (λ sends. stays refl (q.frame s (eqb-true _ _ (and_parts (is_holding s) (has_room p s.frames) sends).0) has)) (λ _. stays refl has)
  kept s (event.RecvFrame keep) within has = frame_received keep s s.frames has
  kept s event.SendAck within has =
      cond_both (has_room p s.acks) (record s { acks = s.acks ++ s.recv_label ∷ [] }) s (λ t. Moves s t Q)
      (λ _. stays refl (q.ack s has)) (λ _. stays refl has)
  kept s (event.RecvAck keep) within has = ack_received keep s s.acks has
  kept s (event.LoseFrame place) within has = stays refl (q.lost_frame s place has)
  kept s (event.LoseAck place) within has = stays refl (q.lost_ack s place has)
  kept s event.Close within has = stays refl (q.close s has)

-- ---- the bounds stay

-- a queue that has room takes one more
room_for_one : {A : Type 0} (c : ℕ) (xs : List A) (x : A) → length xs < c → length (xs ++ x ∷ []) ≤ c
room_for_one c xs x room = omega (arith, length_push xs x)

pub fewer_without : {A : Type 0} (i : ℕ) (xs : List A) → length (without i xs) ≤ length xs
fewer_without i [] = omega arith
fewer_without zero (x ∷ xs) = omega arith
fewer_without (suc i) (x ∷ xs) = omega (arith, fewer_without i xs)

pub fewer_after : {A : Type 0} (keep : Bool) (xs : List A) → length (after_front keep xs) ≤ length xs
fewer_after true xs = omega arith
fewer_after false [] = omega arith
fewer_after false (x ∷ xs) = omega arith

abbrev Within : Parameters → LinkState → Type 0
Within p s = IsWithin p s

module _ (p : Parameters) where
  within_frames : (s : LinkState) (frames : List Frame) → IsWithin p s → length frames ≤ p.capacity
      → IsWithin p (record s { frames = frames })
  within_frames s frames within few = record { frames = few; acks = within.acks; waits = within.waits }

  within_acks : (s : LinkState) (acks : List ℕ) → IsWithin p s → length acks ≤ p.capacity
      → IsWithin p (record s { acks = acks })
  within_acks s acks within few = record { frames = within.frames; acks = few; waits = within.waits }

  within_recv : (keep : Bool) (s : LinkState) (frames : List Frame) → IsWithin p (record s { frames = frames })
      → IsWithin p (receives_frame keep (record s { frames = frames }) (slice_get frames 0))
  within_recv keep s [] within = within
  within_recv keep s (f ∷ fs) within =
      let few : length (after_front keep (f ∷ fs)) ≤ p.capacity = omega (arith, within.frames, fewer_after keep (f ∷ fs)) in
      cond_both (f.label == s.recv_label) _ _ (IsWithin p)
      (λ _. record { frames = few; acks = within.acks; waits = within.waits })
      (λ _. record { frames = few; acks = within.acks; waits = within.waits })

  within_ack : (keep : Bool) (s : LinkState) (acks : List ℕ) → IsWithin p (record s { acks = acks })
      → IsWithin p (receives_ack p keep (record s { acks = acks }) (slice_get acks 0))
  within_ack keep s [] within = within
  within_ack keep s (a ∷ rest) within =
      let few : length (after_front keep (a ∷ rest)) ≤ p.capacity = omega (arith, within.acks, fewer_after keep (a ∷ rest)) in
      cond_both (is_holding s && (a == s.send_label)) _ _ (IsWithin p)
      (λ accepts.
      let holds = eqb-true _ _ (and_parts (is_holding s) (a == s.send_label) accepts).0 in
      record { frames = within.frames; acks = few; waits = inl holds })
      (λ _. record { frames = within.frames; acks = few; waits = within.waits })

  pub within_open : (s : LinkState) (e : Event) → IsWithin p s → IsWithin p (open_step p s e)
  within_open s (event.Offer item) within =
      cond_both (is_idle s) (record s { offered = s.offered ++ item ∷ [] }) s (IsWithin p)
      (λ none. record {
        frames = within.frames;
        acks = within.acks;
        waits = inr (length_push s.offered item ∙ ap (λ n. n + 1) (eqb-true _ _ none));
      }) (λ _. within)
  within_open s event.SendFrame within =
      cond_both (is_holding s && has_room p s.frames) (record s { frames = s.frames ++ current_frame s ∷ [] }) s (IsWithin p)
      (λ sends. within_frames s _ within
      (room_for_one p.capacity s.frames (current_frame s) (ltb-true _ _ (and_parts (is_holding s) (has_room p s.frames) sends).1)))
      (λ _. within)
  within_open s (event.RecvFrame keep) within = within_recv keep s s.frames within
  within_open s event.SendAck within =
      cond_both (has_room p s.acks) (record s { acks = s.acks ++ s.recv_label ∷ [] }) s (IsWithin p)
      (λ room. within_acks s _ within (room_for_one p.capacity s.acks s.recv_label (ltb-true _ _ room))) (λ _. within)
  within_open s (event.RecvAck keep) within = within_ack keep s s.acks within
  within_open s (event.LoseFrame place) within =
      within_frames s _ within (omega (arith, within.frames, fewer_without place s.frames))
  within_open s (event.LoseAck place) within =
      within_acks s _ within (omega (arith, within.acks, fewer_without place s.acks))
  within_open s event.Close within = record { frames = within.frames; acks = within.acks; waits = within.waits }

  -- every event leaves a link within its bounds
  pub within_step : (s : LinkState) (e : Event) → IsWithin p s → IsWithin p (step p s e)
  within_step s e within = cond_both s.closed s (open_step p s e) (IsWithin p) (λ _. within) (λ _. within_open s e within)

  -- nothing holds of every state
  pub anything : Stable p (λ _. Unit {0})
  anything =
      record {
        offer = λ s item within none has. tt;
        frame = λ s holds has. tt;
        old = λ s keep f fs has. tt;
        fresh = λ s keep f fs has. tt;
        ack = λ s has. tt;
        ignored = λ s keep a rest has. tt;
        lost_frame = λ s i has. tt;
        lost_ack = λ s i has. tt;
        close = λ s has. tt;
      }

  pub one_step_grows : (s t : LinkState) → Moves s t (λ _. Unit {0}) → s.acked ≤ t.acked
  one_step_grows s t (accepts more) = omega arith
  one_step_grows s t (stays same _) = omega arith

  -- the count of acknowledged items never falls
  pub step_grows : (s : LinkState) (e : Event) → IsWithin p s → s.acked ≤ (step p s e).acked
  step_grows s e within =
      cond_both s.closed s (open_step p s e) (λ (t : LinkState). s.acked ≤ t.acked) (λ _. omega arith)
      (λ _. one_step_grows s (open_step p s e) (kept anything s e within tt))

  pub replay_grows : (s : LinkState) (es : List Event) → IsWithin p s → s.acked ≤ (replay p s es).acked
  replay_grows s [] within = omega arith
  replay_grows s (e ∷ es) within =
      omega (arith, step_grows s e within, replay_grows (step p s e) es (within_step s e within))
