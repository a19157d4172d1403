-- The replay of the worst events from the worst start, round by round, and what it shows of the
-- bounds of the link law.
use Rattle.std.proofs.Common.{◌≡◌, ◌≢◌, ℕ, false, zero, suc, ◌+◌, ◌*◌, ◌<◌, ◌≤◌, inl, inr, List, [], ◌∷◌, ◌++◌, map, length, get_or, slice_index, Contains, refl, sym, ◌∙◌, ap, ap₂, arith, append_assoc, append-nil, add-one, length-append}
use Rattle.std.specs.List.{range_with_len}
use Rattle.std.proofs.lemmas.Bool.{cases_lt, eq-eqb, ne_eqb, lt-ltb, lt-leb}
use Rattle.std.proofs.lemmas.List.{get_or_append_left, length-map}
use Rattle.std.proofs.lemmas.List.Elements.{Contains-push_cases}
use Rattle.std.proofs.lemmas.List.FromFn.{length-range_with_len, get_or-range_with_len}
use Rattle.stab_frames.specs.declared.frame.Frame.{Frame}
use Rattle.stab_frames.specs.Parameters.{Parameters, AreLawful, next}
use Rattle.stab_core.specs.declared.event.Event.{Event}
use Rattle.stab_core.specs.declared.event.Event.TheVariants.{Offer, SendFrame, SendAck}
use Rattle.stab_core.specs.LinkState.{LinkState}
use Rattle.stab_core.specs.LinkLaw.{HalfLawAt, NoneMissingFrom, LinkLawWithin}
use Rattle.stab_core.specs.Step.{step}
use Rattle.stab_core.specs.declared.start.Start.{Start}
use Rattle.stab_core.specs.Replay.{IsLawful, start_items, initial, replay}
use Rattle.stab_core.specs.CounterExamples.{take_frame, take_ack, counted_frames, worst_start, acked_by_start, acked_by_receiver, delivered_at_last, worst_events}
use Rattle.stab_core.proofs.ForCallers.{member_is_at}
use Rattle.stab_core.proofs.CounterExamples.{delivered_at, late_was_offered}
use Rattle.stab_core.proofs.Replays.{replay-append}

-- ---- numbers that count up

-- the `count` numbers from `first` on, and the one after them, are `count + 1` numbers
pub range_push : (first count next : ℕ) → first + count ≡ next
    → range_with_len first count ++ next ∷ [] ≡ range_with_len first (count + 1)
range_push first zero next is = ap (λ x. x ∷ []) (omega arith)
range_push first (suc count) next is =
    rw (add-one (suc count))
    (ap (λ rest. first ∷ rest) (range_push (first + 1) count next (omega arith) ∙ ap (range_with_len (first + 1)) (add-one count)))

-- each of them is no lower than the first, and below the one after the last
pub range_bounds : (first count x : ℕ) → Contains (range_with_len first count) x → (first ≤ x) × (x < first + count)
range_bounds first count x member =
    let (k, here) = member_is_at (range_with_len first count) x member in
    let within : k < count = omega (arith, here.within, length-range_with_len first count) in
    let is : first + k ≡ x = sym (get_or-range_with_len first count k 0 within) ∙ here.is_there in
    (omega arith, omega arith)

-- ---- the steps of a round

-- the frame of a label and an item
abbrev pub frame : ℕ → ℕ → Frame
frame label item = record { label = label; item = item }

-- The items count up from `first`.
module _ (p : Parameters) (first : ℕ) where
  -- between two rounds: the sender is idle after this many items, with this label
  abbrev pub idle : List Frame → List ℕ → ℕ → ℕ → ℕ → List ℕ → LinkState
  idle frames acks count label recv_label delivered =
      record {
        frames = frames;
        acks = acks;
        send_label = label;
        offered = range_with_len first count;
        acked = count;
        recv_label = recv_label;
        delivered = delivered;
        closed = false;
      }

  -- within a round: one item more was offered, and waits
  abbrev pub holding : List Frame → List ℕ → ℕ → ℕ → ℕ → List ℕ → LinkState
  holding frames acks count label recv_label delivered =
      record (idle frames acks count label recv_label delivered) { offered = range_with_len first (count + 1) }

  -- the next item is offered
  pub item_offered : (frames : List Frame) (acks : List ℕ) (count label item recv_label : ℕ) (delivered : List ℕ)
      → first + count ≡ item
      → step p (idle frames acks count label recv_label delivered) (Offer item)
      ≡ holding frames acks count label recv_label delivered
  item_offered frames acks count label item recv_label delivered is =
      rw (eq-eqb _ _ (length-range_with_len first count), range_push first count item is)

  -- an acknowledgement with the sender's label arrives
  pub label_acked : (frames : List Frame) (acks : List ℕ) (count label recv_label : ℕ) (delivered : List ℕ)
      → step p (holding frames (label ∷ acks) count label recv_label delivered) take_ack
      ≡ idle frames acks (count + 1) (next p label) recv_label delivered
  label_acked frames acks count label recv_label delivered =
      rw (eq-eqb _ _ (length-range_with_len first (count + 1)), eq-eqb label label refl) refl

  -- where the label after it is one, the sender has that now
  pub item_acked : (frames : List Frame) (acks : List ℕ) (count label recv_label : ℕ) (delivered : List ℕ)
      → label + 1 < p.labels
      → step p (holding frames (label ∷ acks) count label recv_label delivered) take_ack
      ≡ idle frames acks (count + 1) (label + 1) recv_label delivered
  item_acked frames acks count label recv_label delivered more =
      label_acked frames acks count label recv_label delivered
      ∙ ap (λ l. idle frames acks (count + 1) l recv_label delivered) (rw (lt-leb p.labels (label + 1) more) refl)

  -- both: the acknowledgement was there before the item
  pub acked_unsent : (frames : List Frame) (acks : List ℕ) (count label item recv_label : ℕ) (delivered : List ℕ)
      → first + count ≡ item → label + 1 < p.labels
      → step p (step p (idle frames (label ∷ acks) count label recv_label delivered) (Offer item)) take_ack
      ≡ idle frames acks (count + 1) (label + 1) recv_label delivered
  acked_unsent frames acks count label item recv_label delivered is more =
      ap (λ s. step p s take_ack) (item_offered frames (label ∷ acks) count label item recv_label delivered is)
      ∙ item_acked frames acks count label recv_label delivered more

  -- the receiver sends the label that it remembers
  pub label_answered : (frames : List Frame) (acks : List ℕ) (count label recv_label : ℕ) (delivered : List ℕ)
      → length acks < p.capacity
      → step p (idle frames acks count label recv_label delivered) SendAck
      ≡ idle frames (acks ++ recv_label ∷ []) count label recv_label delivered
  label_answered frames acks count label recv_label delivered room = rw (lt-ltb (length acks) p.capacity room)

  -- where that is the sender's own label, it acknowledges the next item
  pub acked_by_label : (frames : List Frame) (count label item : ℕ) (delivered : List ℕ) → first + count ≡ item
      → 1 ≤ p.capacity → label + 1 < p.labels
      → step p (step p (step p (idle frames [] count label label delivered) SendAck) (Offer item)) take_ack
      ≡ idle frames [] (count + 1) (label + 1) label delivered
  acked_by_label frames count label item delivered is room more =
      ap (λ s. step p (step p s (Offer item)) take_ack) (label_answered frames [] count label label delivered room)
      ∙ acked_unsent frames [] count label item label delivered is more

  -- a frame with another label is taken while the sender is idle
  pub stray_taken : (frames : List Frame) (acks : List ℕ) (taken stray count label recv_label : ℕ) (delivered : List ℕ)
      → taken ≢ recv_label
      → step p (idle (frame taken stray ∷ frames) acks count label recv_label delivered) take_frame
      ≡ idle frames acks count label taken (delivered ++ stray ∷ [])
  stray_taken frames acks taken stray count label recv_label delivered other = rw (ne_eqb taken recv_label other)

  -- the item that waits is sent
  pub item_sent : (frames : List Frame) (acks : List ℕ) (count label item recv_label : ℕ) (delivered : List ℕ)
      → first + count ≡ item → length frames < p.capacity
      → step p (holding frames acks count label recv_label delivered) SendFrame
      ≡ holding (frames ++ frame label item ∷ []) acks count label recv_label delivered
  item_sent frames acks count label item recv_label delivered is room =
      let waits : get_or (range_with_len first (count + 1)) count 0 ≡ item =
      get_or-range_with_len first (count + 1) count 0 (omega arith) ∙ is in
      rw (eq-eqb _ _ (length-range_with_len first (count + 1)), lt-ltb (length frames) p.capacity room, waits)

  -- its frame is taken
  item_taken : (taken item count label recv_label : ℕ) (delivered : List ℕ) → taken ≢ recv_label
      → step p (holding (frame taken item ∷ []) [] count label recv_label delivered) take_frame
      ≡ holding [] [] count label taken (delivered ++ item ∷ [])
  item_taken taken item count label recv_label delivered other = rw (ne_eqb taken recv_label other)

  -- ---- the rounds

  -- the rounds of the start's acknowledgements
  pub after_start_acks : (frames : List Frame) (rounds count label item recv_label : ℕ) (delivered : List ℕ)
      → first + count ≡ item → label + rounds < p.labels
      → replay p (idle frames (range_with_len label rounds) count label recv_label delivered) (acked_by_start item rounds)
      ≡ idle frames [] (count + rounds) (label + rounds) recv_label delivered
  after_start_acks frames zero count label item recv_label delivered is more =
      ap₂ (λ n l. idle frames [] n l recv_label delivered) (omega arith) (omega arith)
  after_start_acks frames (suc rounds) count label item recv_label delivered is more =
      ap (λ s. replay p s (acked_by_start (item + 1) rounds))
      (acked_unsent frames (range_with_len (label + 1) rounds) count label item recv_label delivered is (omega arith))
      ∙ after_start_acks frames rounds (count + 1) (label + 1) (item + 1) recv_label delivered (omega arith) (omega arith)
      ∙ ap₂ (λ n l. idle frames [] n l recv_label delivered) (omega arith) (omega arith)

  -- the rounds of the strays, with more frames after them
  pub after_strays : (more : List Frame) (rounds count label item stray : ℕ) (delivered : List ℕ) → first + count ≡ item
      → 1 ≤ p.capacity → label + rounds < p.labels
      → replay p (idle (counted_frames (label + 1) stray rounds ++ more) [] count label label delivered)
      (acked_by_receiver item rounds)
      ≡ idle more [] (count + rounds) (label + rounds) (label + rounds) (delivered ++ range_with_len stray rounds)
  after_strays more zero count label item stray delivered is room enough =
      rw (append-nil delivered) (ap₂ (λ n l. idle more [] n l l delivered) (omega arith) (omega arith))
  after_strays more (suc rounds) count label item stray delivered is room enough =
      let rest : List Frame = counted_frames (label + 1 + 1) (stray + 1) rounds ++ more in
      let later : List Event = acked_by_receiver (item + 1) rounds in
      ap (λ s. replay p (step p s take_frame) later)
      (acked_by_label (frame (label + 1) stray ∷ rest) count label item delivered is room (omega arith))
      ∙ ap (λ s. replay p s later)
      (stray_taken rest [] (label + 1) stray (count + 1) (label + 1) label delivered (λ same. omega arith))
      ∙ after_strays more rounds (count + 1) (label + 1) (item + 1) (stray + 1) (delivered ++ stray ∷ []) (omega arith) room (omega arith)
      ∙ rw (append_assoc delivered (stray ∷ []) (range_with_len (stray + 1) rounds))
      (ap₂ (λ n l. idle more [] n l l (delivered ++ range_with_len stray (suc rounds))) (omega arith) (omega arith))

  -- the last round, in which an item is delivered
  after_last : (count item : ℕ) (delivered : List ℕ) → first + count ≡ item → 1 ≤ p.capacity → count + 1 < p.labels
      → replay p (idle [] [] count count count delivered) (delivered_at_last item)
      ≡ holding [] [] (count + 1) (count + 1) (count + 1) (delivered ++ (item + 1) ∷ [])
  after_last count item delivered is room more =
      ap (λ s. step p (step p (step p s (Offer (item + 1))) SendFrame) take_frame)
      (acked_by_label [] count count item delivered is room more)
      ∙ ap (λ s. step p (step p s SendFrame) take_frame)
      (item_offered [] [] (count + 1) (count + 1) (item + 1) count delivered (omega arith))
      ∙ ap (λ s. step p s take_frame)
      (item_sent [] [] (count + 1) (count + 1) (item + 1) count delivered (omega arith) (omega arith))
      ∙ item_taken (count + 1) (item + 1) (count + 1) (count + 1) count delivered (λ same. omega arith)

  -- all rounds
  after_worst : (stray : ℕ) → 1 ≤ p.capacity → 2 * p.capacity + 2 ≤ p.labels
      → let c = p.capacity in
      replay p (initial (worst_start c stray)) (worst_events c first)
      ≡ holding [] [] (2 * c + 1) (2 * c + 1) (2 * c + 1) (range_with_len stray c ++ (first + 2 * c + 1) ∷ [])
  after_worst stray room labels =
      let c : ℕ = p.capacity in
      let strays : List ℕ = range_with_len stray c in
      let frames : List Frame = counted_frames (c + 1) stray c in
      let start : LinkState = initial (worst_start c stray) in
      let by_start : List Event = acked_by_start first c in
      let by_receiver : List Event = acked_by_receiver (first + c) c in
      let at_last : List Event = delivered_at_last (first + 2 * c) in
      let acks_taken : replay p start by_start ≡ idle frames [] c c c [] =
      after_start_acks frames c 0 0 first c [] (omega arith) (omega arith) ∙ ap (λ n. idle frames [] n n c []) (omega arith) in
      let strays_taken : replay p (idle frames [] c c c []) by_receiver ≡ idle [] [] (2 * c) (2 * c) (2 * c) strays =
      ap (λ queued. replay p (idle queued [] c c c []) by_receiver) (sym (append-nil frames))
      ∙ after_strays [] c c c (first + c) stray [] (omega arith) room (omega arith)
      ∙ ap (λ n. idle [] [] n n n strays) (omega arith) in
      replay-append p start (by_start ++ by_receiver) at_last
      ∙ ap (λ s. replay p s at_last)
      (replay-append p start by_start by_receiver ∙ ap (λ s. replay p s by_receiver) acks_taken ∙ strays_taken)
      ∙ after_last (2 * c) (first + 2 * c) strays (omega arith) room (omega arith)

-- ---- the start

-- the items of the frames count up as well
pub counted_items : (label item count : ℕ) → map (λ f. f.item) (counted_frames label item count) ≡ range_with_len item count
counted_items label item zero = refl
counted_items label item (suc count) = ap (λ rest. item ∷ rest) (counted_items (label + 1) (item + 1) count)

-- there are as many strays as the capacity
pub worst_strays : (c stray : ℕ) → length (start_items (worst_start c stray)) ≡ c
worst_strays c stray = ap length (counted_items (c + 1) stray c) ∙ length-range_with_len stray c

-- so there are as many frames, and as many acknowledgements
pub worst_is_lawful : (p : Parameters) (stray : ℕ) → IsLawful p (worst_start p.capacity stray)
worst_is_lawful p stray =
    let c : ℕ = p.capacity in
    record {
      frames = omega (arith, worst_strays c stray, length-map (worst_start c stray).frames (λ f. f.item));
      acks = omega (arith, length-range_with_len 0 c);
    }

-- ---- the bounds

-- what the accounts are after the worst events
pub worst_reached : (p : Parameters) (item stray : ℕ) → AreLawful p → let c = p.capacity in
    let s = replay p (initial (worst_start c stray)) (worst_events c item) in
    (s.offered ≡ range_with_len item (2 * c + 2)) × (s.acked ≡ 2 * c + 1)
    × (s.delivered ≡ start_items (worst_start c stray) ++ (item + 2 * c + 1) ∷ [])
worst_reached p item stray parameters =
    let c : ℕ = p.capacity in
    rw (after_worst p item stray parameters.some_capacity parameters.enough_labels)
    (ap (range_with_len item) (omega arith), refl, ap (λ strays. strays ++ (item + 2 * c + 1) ∷ []) (sym (counted_items (c + 1) stray c)))

-- The strays have other items than all that is offered.
module _ (c item stray most_strays most_missing : ℕ) (apart : item + 2 * c + 2 ≤ stray) where
  abbrev strays : List ℕ
  strays = range_with_len stray c

  abbrev all_offered : List ℕ
  all_offered = range_with_len item (2 * c + 2)

  abbrev all_delivered : List ℕ
  all_delivered = strays ++ (item + 2 * c + 1) ∷ []

  -- were fewer strays allowed, the first stray too many would have been offered
  enough_strays : (places : List ℕ) → HalfLawAt most_strays strays all_offered (2 * c + 1) all_delivered places
      → c ≤ most_strays
  enough_strays places half =
      elim (cases_lt most_strays c) [
        | inl fewer ↦
            let size : length strays ≡ c = length-range_with_len stray c in
            let within : most_strays < length all_delivered = omega (arith, length-append strays ((item + 2 * c + 1) ∷ [])) in
            let is : slice_index all_delivered most_strays ≡ stray + most_strays =
            get_or_append_left strays ((item + 2 * c + 1) ∷ []) 0 most_strays (omega arith)
            ∙ get_or-range_with_len stray c most_strays 0 fewer in
            let member = late_was_offered most_strays strays all_offered (2 * c + 1) all_delivered places most_strays half (omega arith) within in
            let bounds : (item ≤ slice_index all_delivered most_strays) × (slice_index all_delivered most_strays < item + (2 * c + 2)) =
            range_bounds item (2 * c + 2) (slice_index all_delivered most_strays) member in
            absurd (omega (arith, bounds.1))
        | inr enough ↦ enough
      ]

  -- were fewer items allowed to be missing, item number 2c would have been delivered
  enough_missing : (places : List ℕ) → HalfLawAt most_strays strays all_offered (2 * c + 1) all_delivered places
      → NoneMissingFrom most_missing (2 * c + 1) places → 2 * c + 1 ≤ most_missing
  enough_missing places half none_missing =
      elim (cases_lt (2 * c) most_missing) [
        | inl more ↦ omega arith
        | inr late ↦
            let is : slice_index all_offered (2 * c) ≡ item + 2 * c = get_or-range_with_len item (2 * c + 2) (2 * c) 0 (omega arith) in
            let member : Contains all_delivered (item + 2 * c) = rw is at
            (delivered_at most_strays strays all_offered (2 * c + 1) all_delivered places (2 * c) half (none_missing (2 * c) late (omega arith))) in
            elim (Contains-push_cases strays (item + 2 * c + 1) (item + 2 * c) member) [
              | inl among ↦ let bounds = range_bounds stray c (item + 2 * c) among in absurd (omega (arith, bounds.0))
              | inr last ↦ absurd (omega (arith, last))
            ]
      ]

-- so bounds that hold of this replay are no smaller
pub no_smaller : (p : Parameters) (item stray most_strays most_missing : ℕ) → AreLawful p → let c = p.capacity in
    item + 2 * c + 2 ≤ stray
    → let s = replay p (initial (worst_start c stray)) (worst_events c item) in
    LinkLawWithin most_strays most_missing (start_items (worst_start c stray)) s.offered s.acked s.delivered
    → (c ≤ most_strays) × (2 * c + 1 ≤ most_missing)
no_smaller p item stray most_strays most_missing parameters apart law =
    let c : ℕ = p.capacity in
    let reached = worst_reached p item stray parameters in
    let (places, half, none_missing) = rw (reached.0, reached.1, reached.2, counted_items (c + 1) stray c) at law in (
      enough_strays c item stray most_strays most_missing apart places half,
      enough_missing c item stray most_strays most_missing apart places half none_missing,
    )

-- and neither are bounds that hold of every replay
pub least_bounds : (p : Parameters) (most_strays most_missing : ℕ) → AreLawful p
    → ((start : Start) (events : List Event) → IsLawful p start → let s = replay p (initial start) events in
    LinkLawWithin most_strays most_missing (start_items start) s.offered s.acked s.delivered)
    → (p.capacity ≤ most_strays) × (2 * p.capacity + 1 ≤ most_missing)
least_bounds p most_strays most_missing parameters law =
    let c : ℕ = p.capacity in
    let stray : ℕ = 2 * c + 2 in
    no_smaller p 0 stray most_strays most_missing parameters (omega arith)
    (law (worst_start c stray) (worst_events c 0) (worst_is_lawful p stray))
