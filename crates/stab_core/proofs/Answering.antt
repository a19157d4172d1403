-- The labels that the receiver has remembered, in their order, and where in this list the
-- acknowledgements are. The sender accepts each of them once at most. So the item after as many as
-- the acknowledgements of the start, the label that the receiver began with, and the strays that it
-- took, is acknowledged by the answer to a frame that was sent; and where there are enough labels,
-- that is a frame of the item's own.
use Rattle.std.proofs.Common.{◌≡◌, ℕ, zero, suc, ◌+◌, ◌-◌, ◌<◌, ◌≤◌, ltb, lt-ltb, le-ltb, if◌then◌else◌, ◌⊎◌, inl, inr, Bool, List, [], ◌∷◌, ◌++◌, map, length, get_or, slice_index, Contains, refl, sym, ◌∙◌, ap, ap₂, subst, subst₂, arith, append_assoc, length-append, get_or-append-add, zero-add}
use Rattle.std.proofs.lemmas.Bool.{cases_lt}
use Rattle.std.proofs.lemmas.List.{length-map, map_push, length_push, get_or_append_left, get_or-map, get_or_default, same_lists}
use Rattle.std.proofs.lemmas.List.FromFn.{length-range_with_len, get_or-range_with_len}
use Rattle.std.proofs.lemmas.List.Elements.{Contains-get_or, Contains-append_left}
use Rattle.std.specs.List.{AllByRecursion as Each, range_with_len}
use Rattle.stab_frames.specs.Parameters.{Parameters, next}
use Rattle.stab_core.specs.declared.start.Start.{Start}
use Rattle.stab_core.specs.Picks.{RisesFrom, AllBelow}
use Rattle.stab_core.specs.Step.{after_front}
use Rattle.stab_core.proofs.Labels.{item_label, item_label-more, near_labels_differ, next_differs}
use Rattle.stab_core.proofs.InOrder.{InOrder, Each-in_order, Each-push, in_order_after_front, after_front-map}
use Rattle.stab_core.proofs.ForCallers.{below_push, below_higher, below_bound, map_below, raised}
use Rattle.stab_core.proofs.Places.{NeverFalls, NeverFalls-in_order, NeverFalls-push, AllBelow-in_order}
use Rattle.stab_core.proofs.Sources.{stray_count, label_at, label_sent}

-- ---- strays among rising places

-- how many of these places are below a bound
abbrev pub few_below : ℕ → List ℕ → ℕ
few_below bound [] = 0
few_below bound (v ∷ vs) = if ltb v bound then suc (few_below bound vs) else few_below bound vs

-- they are no fewer where one place is added
few_below-push : (bound : ℕ) (vs : List ℕ) (v : ℕ) → few_below bound vs ≤ few_below bound (vs ++ v ∷ [])
few_below-push bound [] v = omega arith
few_below-push bound (w ∷ vs) v =
    let more = few_below-push bound vs v in
    elim (cases_lt w bound) [
      | inl below ↦ rw (lt-ltb w bound below) (omega arith)
      | inr above ↦ rw (le-ltb w bound above) more
    ]

-- there are none among places that rise from there on
few_below-none : (bound low : ℕ) (vs : List ℕ) → bound ≤ low → RisesFrom low vs → few_below bound vs ≡ 0
few_below-none bound low [] above rises = refl
few_below-none bound low (v ∷ vs) above rises =
    let first = rises.0 in
    rw (le-ltb v bound (omega arith)) (few_below-none bound (v + 1) vs (omega arith) rises.1)

-- rising places rise by one at least
rises_far : (low : ℕ) (vs : List ℕ) (t : ℕ) → RisesFrom low vs → t < length vs → low + t ≤ get_or vs t 0
rises_far low [] t rises within = absurd (omega arith)
rises_far low (v ∷ vs) zero rises within = let first = rises.0 in omega arith
rises_far low (v ∷ vs) (suc t) rises within =
    let first = rises.0 in
    let rest = rises_far (v + 1) vs t rises.1 (omega arith) in omega arith

-- a place after all that are below the bound is as far above it, where the first one is below and
-- the rest are such places
above_next : (bound v : ℕ) (vs : List ℕ) (t : ℕ) → v < bound
    → ((u : ℕ) → u < length vs → few_below bound vs ≤ u → bound + u ≤ get_or vs u 0 + few_below bound vs)
    → t < length (v ∷ vs) → few_below bound (v ∷ vs) ≤ t → bound + t ≤ get_or (v ∷ vs) t 0 + few_below bound (v ∷ vs)
above_next bound v vs zero below rest within few = absurd (let none = rw (lt-ltb v bound below) at few in omega arith)
above_next bound v vs (suc t) below rest within few =
    let fewer : suc (few_below bound vs) ≤ suc t = rw (lt-ltb v bound below) at few in
    let later = rest t (omega arith) (omega arith) in
    rw (lt-ltb v bound below) (omega arith)

-- so it is of rising places
above_few : (bound low : ℕ) (vs : List ℕ) (t : ℕ) → RisesFrom low vs → t < length vs → few_below bound vs ≤ t
    → bound + t ≤ get_or vs t 0 + few_below bound vs
above_few bound low [] t rises within few = absurd (omega arith)
above_few bound low (v ∷ vs) t rises within few =
    elim (cases_lt v bound) [
      | inl below ↦ above_next bound v vs t below (λ u. above_few bound (v + 1) vs u rises.1) within few
      | inr above ↦
          let none : few_below bound vs ≡ 0 = few_below-none bound (v + 1) vs (omega arith) rises.1 in
          let far : v + t ≤ get_or (v ∷ vs) t 0 = rises_far v (v ∷ vs) t (omega arith, rises.1) within in
          rw (le-ltb v bound above, none) (omega arith)
    ]

-- none of the raised ones is below
few_below-raised : (bound : ℕ) (vs : List ℕ) → few_below bound (raised bound vs) ≡ 0
few_below-raised bound [] = refl
few_below-raised bound (v ∷ vs) = rw (le-ltb (bound + v) bound (omega arith)) (few_below-raised bound vs)

-- so where places are parted at the bound, the low ones are below
pub few_below-parted : (bound : ℕ) (low high : List ℕ) → AllBelow bound low
    → few_below bound (low ++ raised bound high) ≡ length low
few_below-parted bound [] high below = few_below-raised bound high
few_below-parted bound (v ∷ low) high below =
    rw (lt-ltb v bound below.0) (ap suc (few_below-parted bound low high below.1))

-- numbers that count up never fall
range_never_falls : (low first count : ℕ) → low ≤ first → NeverFalls low (range_with_len first count)
range_never_falls low first zero lower = tt
range_never_falls low first (suc count) lower = (lower, range_never_falls first (first + 1) count (omega arith))

-- and are below the one after the last
range_below : (first count bound : ℕ) → first + count ≤ bound → AllBelow bound (range_with_len first count)
range_below first zero bound room = tt
range_below first (suc count) bound room = (omega arith, range_below (first + 1) count bound (omega arith))

-- ---- the labels that the receiver has remembered

module _ (p : Parameters) (start : Start) where
  -- the labels that the receiver answered before the start, the one that it begins with, and those
  -- that it took
  abbrev pub remembered : List ℕ → List ℕ
  remembered taken = start.acks ++ start.recv_label ∷ map (label_at p start) taken

  -- the one at a place of this list
  abbrev pub label_of : List ℕ → ℕ → ℕ
  label_of taken k = slice_index (remembered taken) k

  -- the place of the last one
  abbrev pub latest : List ℕ → ℕ
  latest taken = length start.acks + length taken

  -- how many of them are of the start and of strays
  abbrev pub of_strays : List ℕ → ℕ
  of_strays taken = length start.acks + 1 + few_below (stray_count start) taken

  -- the sender has not accepted this one, or just now for the last time
  abbrev IsAhead : List ℕ → ℕ → ℕ → Type 0
  IsAhead taken acked k = (acked ≤ k) ⊎ ((k + 1 ≡ acked) × (label_of taken k ≡ item_label p start k))

  -- The acknowledgements are of these places, which never fall. No label is accepted twice; so of
  -- the items after as many as there are labels of the start and of strays, each was taken.
  pub record Answering (acked : ℕ) (acks : List ℕ) (recv_label : ℕ) (taken answered : List ℕ) : Type 0 where
    pub acks_are : acks ≡ map (label_of taken) answered
    pub recv_is : recv_label ≡ label_of taken (latest taken)
    pub never_falls : NeverFalls 0 answered
    pub within : AllBelow (latest taken + 1) answered
    pub ahead : Each (IsAhead taken acked) answered
    pub latest_ahead : IsAhead taken acked (latest taken)
    pub none_missing : (i : ℕ) → of_strays taken ≤ i → i < acked → of_strays taken < p.labels
        → Contains taken (stray_count start + i)

  remembered_length : (taken : List ℕ) → length (remembered taken) ≡ latest taken + 1
  remembered_length taken =
      omega (arith, length-append start.acks (start.recv_label ∷ map (label_at p start) taken), length-map taken (label_at p start))

  -- where nothing is acknowledged, all are ahead
  all_ahead : (ks : List ℕ) → Each (IsAhead [] 0) ks
  all_ahead [] = tt
  all_ahead (k ∷ ks) = (inl (omega arith), all_ahead ks)

  -- at the start
  pub answering_open : Answering 0 start.acks start.recv_label [] (range_with_len 0 (length start.acks))
  answering_open =
      let n : ℕ = length start.acks in
      let front : List ℕ = start.recv_label ∷ [] in
      record {
        acks_are = same_lists start.acks (map (label_of []) (range_with_len 0 n)) (simp (length-map, length-range_with_len))
            (λ k d within.
            let of_range = get_or-map (label_of []) (range_with_len 0 n) k 0 d (rw length-range_with_len within) in
            let number : get_or (range_with_len 0 n) k 0 ≡ k = get_or-range_with_len 0 n k 0 within ∙ zero-add k in
            get_or_default start.acks k d 0 within
            ∙ sym (of_range ∙ ap (label_of []) number ∙ get_or_append_left start.acks front 0 k within));
        recv_is = sym (get_or-append-add start.acks front 0 0);
        never_falls = range_never_falls 0 0 n (omega arith);
        within = range_below 0 n (n + 0 + 1) (omega arith);
        ahead = all_ahead (range_with_len 0 n);
        latest_ahead = inl (omega arith);
        none_missing = λ i late passed. absurd (omega arith);
      }

  -- acknowledgements vanish, or stay at the front
  pub answering_fewer : {acked recv_label : ℕ} {acks fewer taken answered kept : List ℕ}
      → fewer ≡ map (label_of taken) kept → InOrder answered kept → Answering acked acks recv_label taken answered
      → Answering acked fewer recv_label taken kept
  answering_fewer {acked} {taken = taken} fewer_are in_order answering =
      record {
        acks_are = fewer_are;
        recv_is = answering.recv_is;
        never_falls = NeverFalls-in_order 0 in_order answering.never_falls;
        within = AllBelow-in_order (latest taken + 1) in_order answering.within;
        ahead = Each-in_order (IsAhead taken acked) in_order answering.ahead;
        latest_ahead = answering.latest_ahead;
        none_missing = answering.none_missing;
      }

  -- the receiver answers
  pub answering_sent : {acked recv_label : ℕ} {acks taken answered : List ℕ}
      → Answering acked acks recv_label taken answered
      → Answering acked (acks ++ recv_label ∷ []) recv_label taken (answered ++ latest taken ∷ [])
  answering_sent {acked} {taken = taken} {answered} answering =
      let last : ℕ = latest taken in
      record {
        acks_are = ap₂ (λ (front : List ℕ) (label : ℕ). front ++ label ∷ []) answering.acks_are answering.recv_is
            ∙ sym (map_push (label_of taken) answered last);
        recv_is = answering.recv_is;
        never_falls = NeverFalls-push 0 last answered (omega arith) answering.within answering.never_falls;
        within = below_push (last + 1) last answered answering.within (omega arith);
        ahead = Each-push (IsAhead taken acked) answered last answering.ahead answering.latest_ahead;
        latest_ahead = answering.latest_ahead;
        none_missing = answering.none_missing;
      }

  -- one more label is remembered after the others
  one_more : (taken : List ℕ) (v : ℕ) → remembered (taken ++ v ∷ []) ≡ remembered taken ++ label_at p start v ∷ []
  one_more taken v =
      ap (λ labels. start.acks ++ start.recv_label ∷ labels) (map_push (label_at p start) taken v)
      ∙ sym (append_assoc start.acks (start.recv_label ∷ map (label_at p start) taken) (label_at p start v ∷ []))

  -- so the others keep their places
  label_kept : (taken : List ℕ) (v k : ℕ) → k < latest taken + 1 → label_of taken k ≡ label_of (taken ++ v ∷ []) k
  label_kept taken v k within =
      sym (ap (λ labels. slice_index labels k) (one_more taken v)
      ∙ get_or_append_left (remembered taken) (label_at p start v ∷ []) 0 k (omega (arith, remembered_length taken)))

  -- and are as far ahead
  ahead_kept : (taken : List ℕ) (v acked : ℕ) (ks : List ℕ) → AllBelow (latest taken + 1) ks
      → Each (IsAhead taken acked) ks → Each (IsAhead (taken ++ v ∷ []) acked) ks
  ahead_kept taken v acked [] within ahead = tt
  ahead_kept taken v acked (k ∷ ks) within ahead = (
    elim ahead.0 [
      | inl later ↦ inl later
      | inr both ↦ inr (both.0, sym (label_kept taken v k within.0) ∙ both.1)
    ],
    ahead_kept taken v acked ks within.1 ahead.1,
  )

  -- the receiver takes a frame
  pub answering_fresh : {acked recv_label : ℕ} {acks taken answered : List ℕ} (v : ℕ)
      → Answering acked acks recv_label taken answered
      → Answering acked acks (label_at p start v) (taken ++ v ∷ []) answered
  answering_fresh {acked} {taken = taken} {answered} v answering =
      let more : List ℕ = taken ++ v ∷ [] in
      let longer : length more ≡ length taken + 1 = length_push taken v in
      record {
        acks_are = answering.acks_are
            ∙ map_below (label_of taken) (label_of more) (latest taken + 1) answered (label_kept taken v) answering.within;
        recv_is =
            sym (ap₂ (λ labels k. slice_index labels k) (one_more taken v)
            (let at_end : latest more ≡ length (remembered taken) + 0 = omega (arith, remembered_length taken) in at_end)
            ∙ get_or-append-add (remembered taken) (label_at p start v ∷ []) 0 0);
        never_falls = answering.never_falls;
        within = below_higher (latest taken + 1) (latest more + 1) answered (omega arith) answering.within;
        ahead = ahead_kept taken v acked answered answering.within answering.ahead;
        latest_ahead =
            elim answering.latest_ahead [
              | inl later ↦ inl (omega arith)
              | inr both ↦ let just = both.0 in inl (omega arith)
            ];
        none_missing = λ i late passed enough.
            let grows = few_below-push (stray_count start) taken v in
            Contains-append_left taken (v ∷ []) _ (answering.none_missing i (omega arith) passed (omega arith));
      }

  -- after the sender accepted the label at k, a place that is no lower is ahead
  is_ahead_after : (taken : List ℕ) (acked k j : ℕ) → acked ≤ k → k ≤ j → label_of taken k ≡ item_label p start acked
      → IsAhead taken (acked + 1) j
  is_ahead_after taken acked k j ahead later accepted =
      elim (cases_lt acked j) [
        | inl past ↦ inl (omega arith)
        | inr just ↦
            let here : k ≡ j = omega arith in
            let count : acked ≡ j = omega arith in
            inr (omega arith, subst₂ (λ (place item : ℕ). label_of taken place ≡ item_label p start item) here count accepted)
      ]

  -- so are all of them
  ahead_after : (taken : List ℕ) (acked k low : ℕ) (ks : List ℕ) → acked ≤ k → k ≤ low
      → label_of taken k ≡ item_label p start acked → NeverFalls low ks → Each (IsAhead taken (acked + 1)) ks
  ahead_after taken acked k low [] ahead lower accepted never_falls = tt
  ahead_after taken acked k low (j ∷ ks) ahead lower accepted never_falls =
      let first = never_falls.0 in (
        is_ahead_after taken acked k j ahead (omega arith) accepted,
        ahead_after taken acked k j ks ahead (omega arith) accepted never_falls.1,
      )

  -- the label that the sender accepts is one that it has not accepted
  not_accepted : (taken : List ℕ) (acked k : ℕ) → 2 ≤ p.labels → IsAhead taken acked k
      → label_of taken k ≡ item_label p start acked → acked ≤ k
  not_accepted taken acked k some_labels ahead accepted =
      elim ahead [
        | inl later ↦ later
        | inr both ↦
            let next_one : item_label p start acked ≡ next p (item_label p start k) =
            ap (item_label p start) (sym both.0) ∙ item_label-more p start k in
            absurd (next_differs p (item_label p start k) some_labels (sym next_one ∙ sym accepted ∙ both.1))
      ]

  -- A label after those of the start and of strays is that of a frame that was sent; where there
  -- are more labels than these, it is a frame of the item's own.
  accepted_own : (taken : List ℕ) (acked k bound : ℕ) → RisesFrom 0 taken → AllBelow bound taken
      → bound ≤ stray_count start + (acked + 1) → acked ≤ k → k < latest taken + 1
      → label_of taken k ≡ item_label p start acked → of_strays taken ≤ acked → of_strays taken < p.labels
      → Contains taken (stray_count start + acked)
  accepted_own taken acked k bound rises below in_list ahead within accepted late enough =
      let strays : ℕ = stray_count start in
      let few : ℕ = few_below strays taken in
      let (t, is_t) : (t : ℕ) × (k ≡ length start.acks + suc t) = (k - length start.acks - 1, omega arith) in
      let in_taken : t < length taken = omega arith in
      let far : strays + t ≤ get_or taken t 0 + few = above_few strays 0 taken t rises in_taken (omega arith) in
      let v : ℕ = get_or taken t 0 in
      let v_below : v < bound = below_bound bound taken t below in_taken in
      let (m, is_m) : (m : ℕ) × (v ≡ strays + m) = (v - strays, omega arith) in
      let of_frame : label_of taken k ≡ label_at p start v =
      ap (label_of taken) is_t
      ∙ get_or-append-add start.acks (start.recv_label ∷ map (label_at p start) taken) (suc t) 0
      ∙ get_or-map (label_at p start) taken t 0 0 in_taken in
      let of_item : label_of taken k ≡ item_label p start m =
      of_frame ∙ ap (label_at p start) is_m ∙ label_sent p start m in
      elim (cases_lt m acked) [
        | inl before ↦ absurd (near_labels_differ p start m acked before (omega arith) (sym of_item ∙ accepted))
        | inr own ↦
            let is_own : v ≡ strays + acked = omega arith in
            subst (Contains taken) is_own (Contains-get_or taken t 0 in_taken)
      ]

  -- the front acknowledgement is accepted, and stays there or goes
  pub answering_acked : (keep : Bool) {acked label recv_label : ℕ} {acks taken : List ℕ} (answered : List ℕ) {bound : ℕ}
      → 2 ≤ p.labels → label ≡ item_label p start acked → RisesFrom 0 taken → AllBelow bound taken
      → bound ≤ stray_count start + (acked + 1) → Answering acked (label ∷ acks) recv_label taken answered
      → Answering (acked + 1) (after_front keep (label ∷ acks)) recv_label taken (after_front keep answered)
  answering_acked keep [] some_labels own rises below in_list answering =
      absurd (let none = ap length answering.acks_are in omega arith)
  answering_acked keep {acked} {label} {acks = acks} {taken} (k ∷ ks) {bound} some_labels own rises below in_list answering =
      let accepted : label_of taken k ≡ item_label p start acked = sym (ap (λ xs. slice_index xs 0) answering.acks_are) ∙ own in
      let later : acked ≤ k = not_accepted taken acked k some_labels answering.ahead.0 accepted in
      let within : k < latest taken + 1 = answering.within.0 in
      let in_order = in_order_after_front keep (k ∷ ks) in
      let all_after : Each (IsAhead taken (acked + 1)) (k ∷ ks) =
      ahead_after taken acked k k (k ∷ ks) later (omega arith) accepted (omega arith, answering.never_falls.1) in
      record {
        acks_are = ap (after_front keep) answering.acks_are ∙ after_front-map (label_of taken) keep (k ∷ ks);
        recv_is = answering.recv_is;
        never_falls = NeverFalls-in_order 0 in_order answering.never_falls;
        within = AllBelow-in_order (latest taken + 1) in_order answering.within;
        ahead = Each-in_order (IsAhead taken (acked + 1)) in_order all_after;
        latest_ahead = is_ahead_after taken acked k (latest taken) later (omega arith) accepted;
        none_missing = λ i late passed enough.
            elim (cases_lt i acked) [
              | inl before ↦ answering.none_missing i late before enough
              | inr last ↦
                  let is_last : acked ≡ i = omega arith in
                  subst (λ (item : ℕ). Contains taken (stray_count start + item)) is_last
                  (accepted_own taken acked k bound rises below in_list later within accepted (omega arith) enough)
            ];
      }
