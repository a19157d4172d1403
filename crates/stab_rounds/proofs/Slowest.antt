-- 2c rounds are not enough. In each of the slowest rounds the circle of labels, from the
-- acknowledgements back to the frames, moves on by one: the sender hears the first of its 2c
-- labels, and its own comes after the last.
use Rattle.std.proofs.Common.{◌≡◌, ◌≢◌, inl, inr, ℕ, zero, suc, ◌+◌, ◌*◌, ◌<◌, ◌≤◌, ◌==◌, true, false, List, [], ◌∷◌, ◌++◌, map, length, replicate, nat_lt, refl, sym, ◌∙◌, ap, subst, arith, append_assoc, eqb-true, eq-eqb, ne_eqb, lt-ltb, le-ltb}
use Rattle.std.proofs.lemmas.Bool.{cases_Bool, cond-true, cond-false}
use Rattle.std.proofs.lemmas.List.{length_push, length-replicate, map-append}
use Rattle.stab_frames.specs.declared.frame.Frame.{Frame}
use Rattle.stab_frames.specs.Parameters.{Parameters}
use Rattle.stab_core.specs.declared.event.Event.{Event}
use Rattle.stab_core.specs.declared.event.Event.TheVariants as event
use Rattle.stab_core.specs.LinkState.{LinkState, current_frame}
use Rattle.stab_core.specs.Replay.{IsLawful, initial, replay}
use Rattle.stab_core.specs.Step.{step}
use Rattle.stab_rounds.specs.Rounds.{rounds_of}
use Rattle.stab_rounds.specs.Slowest.{slow_start, slow_rounds}

-- the first of these are not this label
abbrev pub FirstDiffer : ℕ → ℕ → List ℕ → Type 0
FirstDiffer label zero xs = Unit {0}
FirstDiffer label (suc k) [] = ⊥
FirstDiffer label (suc k) (x ∷ xs) = (x ≢ label) × FirstDiffer label k xs

differ_push : (label k : ℕ) (xs : List ℕ) (y : ℕ) → FirstDiffer label k xs → FirstDiffer label k (xs ++ y ∷ [])
differ_push label zero xs y differ = tt
differ_push label (suc k) [] y differ = absurd differ
differ_push label (suc k) (x ∷ xs) y differ = (differ.0, differ_push label k xs y differ.1)

abbrev labels_of : List Frame → List ℕ
labels_of frames = map (λ (f : Frame). f.label) frames

-- an open link
abbrev at : List Frame → List ℕ → ℕ → List ℕ → ℕ → ℕ → List ℕ → LinkState
at frames acks label offered acked recv delivered =
    record {
      frames = frames;
      acks = acks;
      send_label = label;
      offered = offered;
      acked = acked;
      recv_label = recv;
      delivered = delivered;
      closed = false;
    }

module _ (p : Parameters) (label : ℕ) (offered : List ℕ) (acked : ℕ) (holds : length offered ≡ acked + 1) where
  waiting : (length offered == acked + 1) ≡ true
  waiting = eq-eqb _ _ holds

  -- nothing is offered where an item waits
  not_offered : (frames : List Frame) (acks : List ℕ) (recv : ℕ) (delivered : List ℕ) (item : ℕ)
      → step p (at frames acks label offered acked recv delivered) (event.Offer item) ≡ at frames acks label offered acked recv delivered
  not_offered frames acks recv delivered item =
      let busy : (length offered == acked) ≡ false = ne_eqb _ _ (λ same. omega arith) in rw busy refl

  -- a queue that is full loses what is put into it, and one with room takes it
  frame_lost : (frames : List Frame) (acks : List ℕ) (recv : ℕ) (delivered : List ℕ) → length frames ≡ p.capacity
      → step p (at frames acks label offered acked recv delivered) event.SendFrame ≡ at frames acks label offered acked recv delivered
  frame_lost frames acks recv delivered all =
      let full : nat_lt (length frames) p.capacity ≡ false = le-ltb _ _ (omega arith) in rw (waiting, full) refl

  frame_put : (frames : List Frame) (acks : List ℕ) (recv : ℕ) (delivered : List ℕ) → length frames < p.capacity
      → (f : Frame) × (f.label ≡ label) × (step p (at frames acks label offered acked recv delivered) event.SendFrame
      ≡ at (frames ++ f ∷ []) acks label offered acked recv delivered)
  frame_put frames acks recv delivered few =
      let room : nat_lt (length frames) p.capacity ≡ true = lt-ltb _ _ few in
      (current_frame (at frames acks label offered acked recv delivered), refl, rw (waiting, room) refl)

  ack_lost : (frames : List Frame) (acks : List ℕ) (recv : ℕ) (delivered : List ℕ) → length acks ≡ p.capacity
      → step p (at frames acks label offered acked recv delivered) event.SendAck ≡ at frames acks label offered acked recv delivered
  ack_lost frames acks recv delivered all =
      let full : nat_lt (length acks) p.capacity ≡ false = le-ltb _ _ (omega arith) in rw full refl

  ack_put : (frames : List Frame) (acks : List ℕ) (recv : ℕ) (delivered : List ℕ) → length acks < p.capacity
      → step p (at frames acks label offered acked recv delivered) event.SendAck
      ≡ at frames (acks ++ recv ∷ []) label offered acked recv delivered
  ack_put frames acks recv delivered few =
      let room : nat_lt (length acks) p.capacity ≡ true = lt-ltb _ _ few in rw room refl

  -- the front frame is taken: its label is remembered
  frame_taken : (f : Frame) (frames : List Frame) (acks : List ℕ) (recv : ℕ) (delivered : List ℕ)
      → (now : List ℕ) × (step p (at (f ∷ frames) acks label offered acked recv delivered) (event.RecvFrame false)
      ≡ at frames acks label offered acked f.label now)
  frame_taken f frames acks recv delivered =
      elim (cases_Bool (f.label == recv)) [
        | inl old ↦
            let same : recv ≡ f.label = sym (eqb-true _ _ old) in
            (delivered, cond-true (f.label == recv) _ _ old ∙ ap (λ r. at frames acks label offered acked r delivered) same)
        | inr fresh ↦ (delivered ++ f.item ∷ [], cond-false (f.label == recv) _ _ fresh)
      ]

  -- the front acknowledgement is not the one that the sender waits for
  ack_ignored : (frames : List Frame) (a : ℕ) (acks : List ℕ) (recv : ℕ) (delivered : List ℕ) → a ≢ label
      → step p (at frames (a ∷ acks) label offered acked recv delivered) (event.RecvAck false) ≡ at frames acks label offered acked recv delivered
  ack_ignored frames a acks recv delivered other =
      let ignored : (a == label) ≡ false = ne_eqb _ _ other in rw (waiting, ignored) refl

  -- the round but for its offer
  abbrev six : List Event → List Event
  six events =
      event.SendFrame ∷ event.RecvFrame false ∷ event.SendFrame ∷ event.SendAck ∷ event.RecvAck false ∷ event.SendAck ∷ events

  -- both queues are full, and the first `k` labels, from the acknowledgements on, are not the
  -- sender's; each of these rounds leaves at least all but one of them
  abbrev pub Belt : ℕ → LinkState → Type 0
  Belt k s =
      (frames : List Frame) × (acks : List ℕ) × (recv : ℕ) × (delivered : List ℕ)
      × (s ≡ at frames acks label offered acked recv delivered) × (length frames ≡ p.capacity) × (length acks ≡ p.capacity)
      × FirstDiffer label k (acks ++ labels_of frames)

  moved_on : (k a : ℕ) (acks : List ℕ) (f g : Frame) (frames : List Frame) → FirstDiffer label (suc k) ((a ∷ acks) ++ labels_of (f ∷ frames))
      → FirstDiffer label k ((acks ++ f.label ∷ []) ++ labels_of (frames ++ g ∷ []))
  moved_on k a acks f g frames differ =
      let is : (acks ++ f.label ∷ labels_of frames) ++ g.label ∷ [] ≡ (acks ++ f.label ∷ []) ++ labels_of (frames ++ g ∷ []) =
      append_assoc acks (f.label ∷ labels_of frames) (g.label ∷ [])
      ∙ sym (append_assoc acks (f.label ∷ []) (labels_of (frames ++ g ∷ []))
      ∙ ap (λ xs. acks ++ f.label ∷ xs) (map-append (λ (h : Frame). h.label) frames (g ∷ []))) in
      subst (FirstDiffer label k) is (differ_push label k (acks ++ f.label ∷ labels_of frames) g.label differ.1)

  belt_six : (k : ℕ) (some : 1 ≤ p.capacity) (frames : List Frame) (acks : List ℕ) (recv : ℕ) (delivered : List ℕ) (events : List Event)
      → length frames ≡ p.capacity → length acks ≡ p.capacity → FirstDiffer label (suc k) (acks ++ labels_of frames)
      → (t : LinkState) × Belt k t × (replay p (at frames acks label offered acked recv delivered) (six events) ≡ replay p t events)
  belt_six k some [] acks recv delivered events all as_many differ = absurd (omega arith)
  belt_six k some (f ∷ frames) [] recv delivered events all as_many differ = absurd (omega arith)
  belt_six k some (f ∷ frames) (a ∷ acks) recv delivered events all as_many differ =
      let (now, taken) = frame_taken f frames (a ∷ acks) recv delivered in
      let (g, own, put) = frame_put frames (a ∷ acks) f.label now (omega arith) in
      let more : List Frame = frames ++ g ∷ [] in (
        at more (acks ++ f.label ∷ []) label offered acked f.label now,
        (
          more,
          acks ++ f.label ∷ [],
          f.label,
          now,
          refl,
          omega (arith, length_push frames g),
          omega (arith, length_push acks f.label),
          moved_on k a acks f g frames differ,
        ),
        ap (λ s. replay p s (event.RecvFrame false ∷ event.SendFrame ∷ event.SendAck ∷ event.RecvAck false ∷ event.SendAck ∷ events))
            (frame_lost (f ∷ frames) (a ∷ acks) recv delivered all)
            ∙ ap (λ s. replay p s (event.SendFrame ∷ event.SendAck ∷ event.RecvAck false ∷ event.SendAck ∷ events)) taken
            ∙ ap (λ s. replay p s (event.SendAck ∷ event.RecvAck false ∷ event.SendAck ∷ events)) put
            ∙ ap (λ s. replay p s (event.RecvAck false ∷ event.SendAck ∷ events)) (ack_lost more (a ∷ acks) f.label now as_many)
            ∙ ap (λ s. replay p s (event.SendAck ∷ events)) (ack_ignored more a acks f.label now differ.0)
            ∙ ap (λ s. replay p s events) (ack_put more acks f.label now (omega arith)),
      )

  -- where `k` labels are not the sender's, `k` of these rounds acknowledge nothing
  pub belt_rounds : (k item : ℕ) (some : 1 ≤ p.capacity) (s : LinkState) → Belt k s → (replay p s (slow_rounds item k)).acked ≡ acked
  belt_rounds zero item some s (frames, acks, recv, delivered, is, all, as_many, differ) = ap (λ (t : LinkState). t.acked) is
  belt_rounds (suc k) item some s (frames, acks, recv, delivered, is, all, as_many, differ) =
      let (t, belt, same) = belt_six k some frames acks recv delivered (slow_rounds (item + 1) k) all as_many differ in
      let here : replay p s (slow_rounds item (suc k)) ≡ replay p t (slow_rounds (item + 1) k) =
      ap (λ x. replay p x (slow_rounds item (suc k))) is
      ∙ ap (λ x. replay p x (six (slow_rounds (item + 1) k))) (not_offered frames acks recv delivered item)
      ∙ same in
      ap (λ (x : LinkState). x.acked) here ∙ belt_rounds k (item + 1) some t belt

-- the labels of the start are all 1
two_parts : (k n m : ℕ) → k ≤ n + m → FirstDiffer 0 k (replicate n 1 ++ labels_of (replicate m (record { label = 1; item = 99 })))
two_parts zero n m few = tt
two_parts (suc k) (suc n) m few = ((λ same. omega arith), two_parts k n m (omega arith))
two_parts (suc k) zero zero few = absurd (omega arith)
two_parts (suc k) zero (suc m) few = ((λ same. omega arith), two_parts k zero m (omega arith))

-- the rounds are rounds
pub slow_count : (item n : ℕ) → rounds_of (slow_rounds item n) ≡ n
slow_count item zero = refl
slow_count item (suc n) = omega (arith, slow_count (item + 1) n)

-- the start is lawful
pub slow_lawful : (p : Parameters) → IsLawful p (slow_start p.capacity)
slow_lawful p =
    record {
      frames = omega (arith, length-replicate {A = Frame} p.capacity (record { label = 1; item = 99 }));
      acks = omega (arith, length-replicate {A = ℕ} p.capacity 1);
    }

-- 2c rounds acknowledge nothing
pub rounds_not_enough : (p : Parameters) (item : ℕ) → 1 ≤ p.capacity
    → (replay p (initial (slow_start p.capacity)) (slow_rounds item (2 * p.capacity))).acked ≡ 0
rounds_not_enough p item some = from_first (2 * p.capacity) (omega arith)
  where
    from_first : (k : ℕ) → k ≤ 2 * p.capacity → (replay p (initial (slow_start p.capacity)) (slow_rounds item k)).acked ≡ 0
    from_first zero few = refl
    from_first (suc k) few =
        let c : ℕ = p.capacity in
        let frames : List Frame = replicate c (record { label = 1; item = 99 }) in
        let acks : List ℕ = replicate c 1 in
        let (t, belt, same) =
        belt_six p 0 (item ∷ []) 0 refl k some frames acks 1 [] (slow_rounds (item + 1) k) (length-replicate c _) (length-replicate c _)
        (two_parts (suc k) c c (omega arith)) in
        ap (λ (x : LinkState). x.acked) same ∙ belt_rounds p 0 (item ∷ []) 0 refl k (item + 1) some t belt
