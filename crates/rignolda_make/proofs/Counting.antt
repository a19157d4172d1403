-- The lists of the worst job, one frame or one round longer.
use Rattle.std.proofs.Common.{◌≡◌, ℕ, zero, suc, ◌+◌, List, [], ◌∷◌, ◌++◌, refl, ap, ◌∙◌, arith, append_assoc, add-one, length, length-append, ◌*◌, ◌≤◌}
use Rattle.std.specs.List.{range_with_len}
use Rattle.stab_frames.specs.declared.frame.Frame.{Frame}
use Rattle.stab_core.specs.declared.event.Event.{Event}
use Rattle.stab_core.specs.declared.event.Event.TheVariants.{Offer, SendAck}
use Rattle.stab_core.specs.CounterExamples.{take_frame, take_ack, counted_frames, acked_by_start, acked_by_receiver, delivered_at_last, worst_events}

-- labels, and the one after them, are one label more
label_more : (first count next : ℕ) → first + count ≡ next
    → range_with_len first count ++ next ∷ [] ≡ range_with_len first (count + 1)
label_more first zero next is = ap (λ x. x ∷ []) (omega arith)
label_more first (suc count) next is =
    rw (add-one (suc count))
    (ap (λ rest. first ∷ rest) (label_more (first + 1) count next (omega arith) ∙ ap (range_with_len (first + 1)) (add-one count)))

pub labels_on : (labels now : List ℕ) (count next : ℕ) → labels ≡ range_with_len 0 count → now ≡ labels ++ next ∷ [] → next ≡ count
    → now ≡ range_with_len 0 (count + 1)
labels_on labels now count next before is at = is ∙ ap (λ ls. ls ++ next ∷ []) before ∙ label_more 0 count next (omega arith)

-- frames, and the one after them, are one frame more
frame_more : (label item count next_label next_item : ℕ) → label + count ≡ next_label → item + count ≡ next_item
    → counted_frames label item count ++ record { label = next_label; item = next_item } ∷ [] ≡ counted_frames label item (count + 1)
frame_more label item zero next_label next_item labels items =
    only next_label label next_item item (omega arith) (omega arith)
  where
    only : (l m i j : ℕ) → l ≡ m → i ≡ j → record { label = l; item = i } ∷ [] ≡ counted_frames m j 1
    only l m i j labels items = rw (labels, items) refl
frame_more label item (suc count) next_label next_item labels items =
    rw (add-one (suc count))
    (ap (λ rest. record { label = label; item = item } ∷ rest)
    (frame_more (label + 1) (item + 1) count next_label next_item (omega arith) (omega arith)
    ∙ ap (counted_frames (label + 1) (item + 1)) (add-one count)))

pub frames_on : (frames now : List Frame) (label item count next_label next_item : ℕ) → frames ≡ counted_frames label item count
    → now ≡ frames ++ record { label = next_label; item = next_item } ∷ [] → label + count ≡ next_label → item + count ≡ next_item
    → now ≡ counted_frames label item (count + 1)
frames_on frames now label item count next_label next_item before is labels items =
    is ∙ ap (λ fs. fs ++ record { label = next_label; item = next_item } ∷ []) before
    ∙ frame_more label item count next_label next_item labels items

-- rounds, and the one after them, are one round more
start_more : (item rounds next : ℕ) → item + rounds ≡ next
    → acked_by_start item rounds ++ Offer next ∷ take_ack ∷ [] ≡ acked_by_start item (rounds + 1)
start_more item zero next is = ap (λ i. Offer i ∷ take_ack ∷ []) (omega arith)
start_more item (suc rounds) next is =
    rw (add-one (suc rounds))
    (ap (λ rest. Offer item ∷ take_ack ∷ rest)
    (start_more (item + 1) rounds next (omega arith) ∙ ap (acked_by_start (item + 1)) (add-one rounds)))

pub start_on : (old before offered now : List Event) (item rounds next : ℕ) → before ≡ old ++ acked_by_start item rounds
    → offered ≡ before ++ Offer next ∷ [] → now ≡ offered ++ take_ack ∷ [] → item + rounds ≡ next
    → now ≡ old ++ acked_by_start item (rounds + 1)
start_on old before offered now item rounds next so_far offer is at =
    is ∙ ap (λ es. es ++ take_ack ∷ []) offer ∙ append_assoc before (Offer next ∷ []) (take_ack ∷ [])
    ∙ ap (λ es. es ++ Offer next ∷ take_ack ∷ []) so_far
    ∙ append_assoc old (acked_by_start item rounds) (Offer next ∷ take_ack ∷ [])
    ∙ ap (λ es. old ++ es) (start_more item rounds next at)

receiver_more : (item rounds next : ℕ) → item + rounds ≡ next
    → acked_by_receiver item rounds ++ SendAck ∷ Offer next ∷ take_ack ∷ take_frame ∷ [] ≡ acked_by_receiver item (rounds + 1)
receiver_more item zero next is = ap (λ i. SendAck ∷ Offer i ∷ take_ack ∷ take_frame ∷ []) (omega arith)
receiver_more item (suc rounds) next is =
    rw (add-one (suc rounds))
    (ap (λ rest. SendAck ∷ Offer item ∷ take_ack ∷ take_frame ∷ rest)
    (receiver_more (item + 1) rounds next (omega arith) ∙ ap (acked_by_receiver (item + 1)) (add-one rounds)))

four : (before : List Event) (a b c d : Event)
    → (((before ++ a ∷ []) ++ b ∷ []) ++ c ∷ []) ++ d ∷ [] ≡ before ++ a ∷ b ∷ c ∷ d ∷ []
four [] a b c d = refl
four (e ∷ es) a b c d = ap (λ rest. e ∷ rest) (four es a b c d)

pub receiver_on : (old before sent offered acked now : List Event) (item rounds next : ℕ) → before ≡ old ++ acked_by_receiver item rounds
    → sent ≡ before ++ SendAck ∷ [] → offered ≡ sent ++ Offer next ∷ [] → acked ≡ offered ++ take_ack ∷ [] → now ≡ acked ++ take_frame ∷ []
    → item + rounds ≡ next
    → now ≡ old ++ acked_by_receiver item (rounds + 1)
receiver_on old before sent offered acked now item rounds next so_far send offer ack is at =
    is ∙ ap (λ es. es ++ take_frame ∷ []) (ack ∙ ap (λ es. es ++ take_ack ∷ []) (offer ∙ ap (λ es. es ++ Offer next ∷ []) send))
    ∙ four before SendAck (Offer next) take_ack take_frame
    ∙ ap (λ es. es ++ SendAck ∷ Offer next ∷ take_ack ∷ take_frame ∷ []) so_far
    ∙ append_assoc old (acked_by_receiver item rounds) (SendAck ∷ Offer next ∷ take_ack ∷ take_frame ∷ [])
    ∙ ap (λ es. old ++ es) (receiver_more item rounds next at)

-- the worst events are few
start_length : (item rounds : ℕ) → length (acked_by_start item rounds) ≡ 2 * rounds
start_length item zero = refl
start_length item (suc rounds) = omega (arith, start_length (item + 1) rounds)

receiver_length : (item rounds : ℕ) → length (acked_by_receiver item rounds) ≡ 4 * rounds
receiver_length item zero = refl
receiver_length item (suc rounds) = omega (arith, receiver_length (item + 1) rounds)

pub few_events : (c item : ℕ) → c ≤ 64 → length (worst_events c item) ≤ 1000000
few_events c item small =
    let started = acked_by_start item c in
    let received = acked_by_receiver (item + c) c in
    let last = delivered_at_last (item + 2 * c) in
    let six : length last ≡ 6 = refl in
    omega (arith, small, six, length-append (started ++ received) last, length-append started received, start_length item c, receiver_length (item + c) c)
