-- With 2c labels an item after the first 2c + 1 is acknowledged and was not delivered.
use Rattle.std.proofs.Common.{◌≡◌, ℕ, zero, suc, ◌+◌, ◌-◌, ◌*◌, ◌<◌, ◌≤◌, inl, inr, List, [], ◌∷◌, ◌++◌, length, slice_index, Contains, refl, ◌∙◌, ap, arith, add-one}
use Rattle.std.specs.List.{range_with_len}
use Rattle.std.proofs.lemmas.Bool.{le-leb}
use Rattle.std.proofs.lemmas.List.Elements.{Contains-push_cases}
use Rattle.std.proofs.lemmas.List.FromFn.{length-range_with_len, get_or-range_with_len}
use Rattle.stab_frames.specs.declared.frame.Frame.{Frame}
use Rattle.stab_frames.specs.Parameters.{Parameters, next}
use Rattle.stab_core.specs.declared.event.Event.{Event}
use Rattle.stab_core.specs.declared.event.Event.TheVariants.{Offer, SendFrame, SendAck}
use Rattle.stab_core.specs.LinkState.{LinkState}
use Rattle.stab_core.specs.LinkLaw.{LinkLaw}
use Rattle.stab_core.specs.Step.{step}
use Rattle.stab_core.specs.Replay.{IsLawful, start_items, initial, replay}
use Rattle.stab_core.specs.CounterExamples.{take_frame, take_ack, counted_frames, acked_by_start, acked_by_receiver, too_few_labels, too_few_labels_start, too_few_labels_events}
use Rattle.stab_core.proofs.CounterExamples.{delivered_at}
use Rattle.stab_core.proofs.Replays.{replay-append}
use Rattle.stab_core.proofs.WorstStart.{range_push, range_bounds, frame, idle, item_offered, label_acked, item_acked, label_answered, stray_taken, item_sent, after_start_acks, after_strays}

-- the label after one that is none is 0, and so is the one after the last
turned : (p : Parameters) (label : ℕ) → p.labels ≤ label + 1 → next p label ≡ 0
turned p label past = rw (le-leb p.labels (label + 1) past) refl

-- there are as many frames as are counted
counted_length : (label item count : ℕ) → length (counted_frames label item count) ≡ count
counted_length label item zero = refl
counted_length label item (suc count) = ap suc (counted_length (label + 1) (item + 1) count)

-- the capacity is d + 1
module _ (d first stray : ℕ) where
  abbrev p : Parameters
  p = too_few_labels (suc d)

  -- the frame of item 1
  abbrev own : Frame
  own = frame 0 (first + 1)

  -- the strays but the first
  abbrev rest : List Frame
  rest = counted_frames (suc d + 1) (stray + 1) d

  -- item 0 is acknowledged by the label that is none, and the first stray is taken
  begun : replay p (idle p first (frame (suc d) stray ∷ rest) (2 * suc d ∷ range_with_len 0 d) 0 (2 * suc d) d [])
      (Offer first ∷ take_ack ∷ SendAck ∷ take_frame ∷ [])
      ≡ idle p first rest (range_with_len 0 (suc d)) 1 0 (suc d) (stray ∷ [])
  begun =
      let frames : List Frame = frame (suc d) stray ∷ rest in
      let acks : List ℕ = range_with_len 0 d in
      let few : length acks < suc d = omega (arith, length-range_with_len 0 d) in
      ap (λ s. step p (step p (step p s take_ack) SendAck) take_frame)
      (item_offered p first frames (2 * suc d ∷ acks) 0 (2 * suc d) first d [] (omega arith))
      ∙ ap (λ s. step p (step p s SendAck) take_frame) (label_acked p first frames acks 0 (2 * suc d) d [])
      ∙ ap (λ label. step p (step p (idle p first frames acks 1 label d []) SendAck) take_frame) (turned p (2 * suc d) (omega arith))
      ∙ ap (λ s. step p s take_frame) (label_answered p first frames acks 1 0 d [] few)
      ∙ stray_taken p first rest (acks ++ d ∷ []) (suc d) stray 1 0 d [] (λ same. omega arith)
      ∙ ap (λ labels. idle p first rest labels 1 0 (suc d) (stray ∷ []))
      (range_push 0 d d (omega arith) ∙ ap (range_with_len 0) (add-one d))

  -- item 1 is sent in its place, and acknowledged by a label of the start
  one_sent : replay p (idle p first rest (range_with_len 0 (suc d)) 1 0 (suc d) (stray ∷ []))
      (Offer (first + 1) ∷ SendFrame ∷ take_ack ∷ [])
      ≡ idle p first (rest ++ own ∷ []) (range_with_len 1 d) 2 1 (suc d) (stray ∷ [])
  one_sent =
      let acks : List ℕ = range_with_len 0 (suc d) in
      let few : length rest < suc d = omega (arith, counted_length (suc d + 1) (stray + 1) d) in
      ap (λ s. step p (step p s SendFrame) take_ack)
      (item_offered p first rest acks 1 0 (first + 1) (suc d) (stray ∷ []) refl)
      ∙ ap (λ s. step p s take_ack) (item_sent p first rest acks 1 0 (first + 1) (suc d) (stray ∷ []) refl few)
      ∙ item_acked p first (rest ++ own ∷ []) (range_with_len 1 d) 1 0 (suc d) (stray ∷ []) (omega arith)

  -- all other labels of the start acknowledge items that were never sent
  all_acked : replay p (idle p first (rest ++ own ∷ []) (range_with_len 1 d) 2 1 (suc d) (stray ∷ []))
      (acked_by_start (first + 2) d ++ acked_by_receiver (first + suc d + 1) d)
      ≡ idle p first (own ∷ []) [] (2 * suc d) (suc d + d) (suc d + d) (range_with_len stray (suc d))
  all_acked =
      let frames : List Frame = rest ++ own ∷ [] in
      let later : List Event = acked_by_receiver (first + suc d + 1) d in
      replay-append p (idle p first frames (range_with_len 1 d) 2 1 (suc d) (stray ∷ [])) (acked_by_start (first + 2) d) later
      ∙ ap (λ s. replay p s later)
      (after_start_acks p first frames d 2 1 (first + 2) (suc d) (stray ∷ []) refl (omega arith)
      ∙ ap (λ label. idle p first frames [] (2 + d) label (suc d) (stray ∷ [])) (omega arith))
      ∙ after_strays p first (own ∷ []) d (2 + d) (suc d) (first + suc d + 1) (stray + 1) (stray ∷ []) (omega arith) (omega arith)
      (omega arith)
      ∙ ap (λ n. idle p first (own ∷ []) [] n (suc d + d) (suc d + d) (range_with_len stray (suc d))) (omega arith)

  -- the last one acknowledges item 2c, and the answer to the frame of item 1 the item after it
  last_acked : replay p (idle p first (own ∷ []) [] (2 * suc d) (suc d + d) (suc d + d) (range_with_len stray (suc d)))
      (SendAck ∷ Offer (first + 2 * suc d) ∷ take_ack ∷ take_frame
      ∷ SendAck ∷ Offer (first + 2 * suc d + 1) ∷ take_ack ∷ [])
      ≡ idle p first [] [] (2 * suc d + 1 + 1) (next p 0) 0 (range_with_len stray (suc d) ++ (first + 1) ∷ [])
  last_acked =
      let n : ℕ = 2 * suc d in
      let label : ℕ = suc d + d in
      let strays : List ℕ = range_with_len stray (suc d) in
      let all : List ℕ = strays ++ (first + 1) ∷ [] in
      let end : LinkState → LinkState =
      λ (s : LinkState). step p (step p (step p s SendAck) (Offer (first + n + 1))) take_ack in
      ap (λ s. end (step p (step p (step p s (Offer (first + n))) take_ack) take_frame))
      (label_answered p first (own ∷ []) [] n label label strays (omega arith))
      ∙ ap (λ s. end (step p (step p s take_ack) take_frame))
      (item_offered p first (own ∷ []) (label ∷ []) n label (first + n) label strays refl)
      ∙ ap (λ s. end (step p s take_frame)) (label_acked p first (own ∷ []) [] n label label strays)
      ∙ ap (λ l. end (step p (idle p first (own ∷ []) [] (n + 1) l label strays) take_frame)) (turned p label (omega arith))
      ∙ ap end (stray_taken p first [] [] 0 (first + 1) (n + 1) 0 label strays (λ same. omega arith))
      ∙ ap (λ s. step p (step p s (Offer (first + n + 1))) take_ack)
      (label_answered p first [] [] (n + 1) 0 0 all (omega arith))
      ∙ ap (λ s. step p s take_ack)
      (item_offered p first [] (0 ∷ []) (n + 1) 0 (first + n + 1) 0 all (omega arith))
      ∙ label_acked p first [] [] (n + 1) 0 0 all

  -- all events
  after_all : replay p (initial (too_few_labels_start (suc d) stray)) (too_few_labels_events (suc d) first)
      ≡ idle p first [] [] (2 * suc d + 1 + 1) (next p 0) 0 (range_with_len stray (suc d) ++ (first + 1) ∷ [])
  after_all =
      let less : suc d - 1 ≡ d = omega arith in
      let rounds : List Event = acked_by_start (first + 2) d ++ acked_by_receiver (first + suc d + 1) d in
      let ending : List Event =
      SendAck ∷ Offer (first + 2 * suc d) ∷ take_ack ∷ take_frame
      ∷ SendAck ∷ Offer (first + 2 * suc d + 1) ∷ take_ack ∷ [] in
      rw less
      (ap (λ s. replay p s ((Offer (first + 1) ∷ SendFrame ∷ take_ack ∷ []) ++ rounds ++ ending)) begun
      ∙ ap (λ s. replay p s (rounds ++ ending)) one_sent
      ∙ replay-append p (idle p first (rest ++ own ∷ []) (range_with_len 1 d) 2 1 (suc d) (stray ∷ [])) rounds ending
      ∙ ap (λ s. replay p s ending) all_acked ∙ last_acked)

-- the start fits the link
pub too_few_is_lawful : (c stray : ℕ) → 1 ≤ c → IsLawful (too_few_labels c) (too_few_labels_start c stray)
too_few_is_lawful c stray some =
    record {
      frames = omega (arith, counted_length c stray c);
      acks = omega (arith, length-range_with_len 0 (c - 1));
    }

-- where the strays are other items than the offered ones, item 2c + 1 was not delivered, though it
-- is acknowledged
pub too_few_labels_break : (c item stray : ℕ) → 1 ≤ c → item + 2 * c + 2 ≤ stray
    → let start = too_few_labels_start c stray in
    let s = replay (too_few_labels c) (initial start) (too_few_labels_events c item) in
    LinkLaw c (start_items start) s.offered s.acked s.delivered → ⊥
too_few_labels_break zero item stray some apart law = absurd (omega arith)
too_few_labels_break (suc d) item stray some apart law =
    let c : ℕ = suc d in
    let last : ℕ = 2 * c + 1 in
    let offered : List ℕ = range_with_len item (last + 1) in
    let strays : List ℕ = range_with_len stray c in
    let delivered : List ℕ = strays ++ (item + 1) ∷ [] in
    let (places, half, none_missing) = rw (after_all d item stray) at law in
    let is : slice_index offered last ≡ item + last = get_or-range_with_len item (last + 1) last 0 (omega arith) in
    let member : Contains delivered (item + last) = rw is at
    (delivered_at c (start_items (too_few_labels_start c stray)) offered (last + 1) delivered places last half
    (none_missing last (omega arith) (omega arith))) in
    elim (Contains-push_cases strays (item + 1) (item + last) member) [
      | inl among ↦ let bounds = range_bounds stray c (item + last) among in absurd (omega (arith, bounds.0))
      | inr same ↦ absurd (omega (arith, same))
    ]
