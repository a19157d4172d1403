-- A link that has 2c + 2 items acknowledged, so that all labels of its start are gone: from then on
-- it passes on exactly what it is offered.
use Rattle.std.proofs.Common.{◌≡◌, ◌⊎◌, inl, inr, ℕ, zero, suc, ◌+◌, ◌-◌, ◌*◌, ◌<◌, ◌≤◌, List, [], ◌∷◌, ◌++◌, length, map, drop, slice_get, slice_index, get_or, refl, sym, ◌∙◌, ap, ap₂, subst, arith, Contains}
use mathlib.Core.List.{IsPrefix}
use Rattle.std.proofs.lemmas.Bool.{cases_lt, cases_eq}
use Rattle.std.proofs.lemmas.List.{length-append, length-map, map-append}
use Rattle.std.proofs.lemmas.List.Elements.{Contains-append_cases}
use Rattle.stab_frames.specs.Parameters.{Parameters, AreLawful}
use Rattle.stab_core.specs.declared.event.Event.{Event}
use Rattle.stab_core.specs.declared.event.Event.TheVariants as event
use Rattle.stab_core.specs.declared.origin.Origin.{Origin}
use Rattle.stab_core.specs.declared.origin.Origin.TheVariants.{Stray, Sent}
use Rattle.stab_core.specs.declared.start.Start.{Start}
use Rattle.stab_core.specs.LinkState.{LinkState}
use Rattle.stab_core.specs.Picks.{RisesFrom, AllBelow}
use Rattle.stab_core.specs.Replay.{IsLawful, initial, replay, start_items}
use Rattle.stab_core.specs.Trace.{Traced, traced_initial, traced_step, traced_replay, origins_after, taken_origin}
use Rattle.stab_core.proofs.Events.{Invariant, every_replay_keeps}
use Rattle.stab_core.proofs.ForCallers.{member_is_at, at_is_member, rises_from_lower, below_higher, member_is_below, prefix_of_itself, prefix_of_prefix}
use Rattle.stab_core.proofs.FreeLabel.{IsFree, free_label}
use Rattle.stab_core.proofs.Growing.{of_both}
use Rattle.stab_core.proofs.LinkLaws.{traced_replay_state}
use Rattle.stab_core.proofs.Replays.{replay-append}
use Rattle.stab_core.proofs.Sources.{stray_count, item_at, origin_at, origin_sent, origin_stray}
use Rattle.stab_core.specs.Since.{start_at, IsBounded, acked_since, delivered_since, PassesOn}
use Rattle.stab_core.proofs.Shifted.{after_all, shifted, replay_shifted, has_past}

-- ---- origins only grow

abbrev OriginsFrom : List Origin → Traced → Type 0
OriginsFrom before t = IsPrefix before t.origins

origins_grow : (t : Traced) (e : Event) → IsPrefix t.origins (origins_after t e)
origins_grow t (event.Offer item) = prefix_of_itself t.origins
origins_grow t event.SendFrame = prefix_of_itself t.origins
origins_grow t (event.RecvFrame keep) = (taken_origin t.state (slice_get t.state.frames 0) (slice_get t.queued 0), refl)
origins_grow t event.SendAck = prefix_of_itself t.origins
origins_grow t (event.RecvAck keep) = prefix_of_itself t.origins
origins_grow t (event.LoseFrame place) = prefix_of_itself t.origins
origins_grow t (event.LoseAck place) = prefix_of_itself t.origins
origins_grow t event.Close = prefix_of_itself t.origins

step_origins : (p : Parameters) (t : Traced) (e : Event) → IsPrefix t.origins (traced_step p t e).origins
step_origins p t e =
    of_both (OriginsFrom t.origins) t.state.closed t _ (prefix_of_itself t.origins) (origins_grow t e)

replay_origins : (p : Parameters) (t : Traced) (es : List Event) → IsPrefix t.origins (traced_replay p t es).origins
replay_origins p t [] = prefix_of_itself t.origins
replay_origins p t (e ∷ es) =
    prefix_of_prefix t.origins (traced_step p t e).origins (traced_replay p (traced_step p t e) es).origins (step_origins p t e)
    (replay_origins p (traced_step p t e) es)

traced-append : (p : Parameters) (t : Traced) (xs ys : List Event)
    → traced_replay p t (xs ++ ys) ≡ traced_replay p (traced_replay p t xs) ys
traced-append p t [] ys = refl
traced-append p t (e ∷ es) ys = traced-append p (traced_step p t e) es ys

-- ---- an origin tells its place

same_stray : (a b : ℕ) → Stray a ≡ Stray b → a ≡ b
same_stray a b same = cc

same_sent : (a b : ℕ) → Sent a ≡ Sent b → a ≡ b
same_sent a b same = cc

stray_or_sent : (a b : ℕ) → Stray a ≡ Sent b → ⊥
stray_or_sent a b same = cc

place_of_origin : (start : Start) (a b : ℕ) → origin_at start a ≡ origin_at start b → a ≡ b
place_of_origin start a b same =
    let size : ℕ = stray_count start in
    let late : (x : ℕ) → size ≤ x → origin_at start x ≡ Sent (x - size) =
    λ x above. (let is : size + (x - size) ≡ x = omega arith in ap (origin_at start) (sym is) ∙ origin_sent start (x - size)) in
    elim (cases_lt a size) [
      | inl a_low ↦
          elim (cases_lt b size) [
            | inl b_low ↦ same_stray a b (sym (origin_stray start a a_low) ∙ (same ∙ origin_stray start b b_low))
            | inr b_high ↦ absurd (stray_or_sent a (b - size) (sym (origin_stray start a a_low) ∙ (same ∙ late b (omega arith))))
          ]
      | inr a_high ↦
          elim (cases_lt b size) [
            | inl b_low ↦ absurd (stray_or_sent b (a - size) (sym (origin_stray start b b_low) ∙ (sym same ∙ late a (omega arith))))
            | inr b_high ↦
                let equal : a - size ≡ b - size =
                same_sent (a - size) (b - size) (sym (late a (omega arith)) ∙ (same ∙ late b (omega arith))) in
                omega arith
          ]
    ]

-- ---- a list that begins as another one, read through its images

same_head : {A : Type 0} (x y : A) (xs ys : List A) → x ∷ xs ≡ y ∷ ys → x ≡ y
same_head x y xs ys same = cc

same_tail : {A : Type 0} (x y : A) (xs ys : List A) → x ∷ xs ≡ y ∷ ys → xs ≡ ys
same_tail x y xs ys same = cc

no_cons : {A : Type 0} (x : A) (xs : List A) → x ∷ xs ≡ [] → ⊥
no_cons x xs same = cc

prefix_through : {A : Type 0} (f : ℕ → A) → ((a b : ℕ) → f a ≡ f b → a ≡ b) → (xs ys : List ℕ)
    → IsPrefix (map f xs) (map f ys) → IsPrefix xs ys
prefix_through f alike [] ys begins = (ys, refl)
prefix_through f alike (x ∷ xs) [] (rest, is) = absurd (no_cons (f x) (map f xs ++ rest) is)
prefix_through f alike (x ∷ xs) (y ∷ ys) (rest, is) =
    let (more, grown) =
    prefix_through f alike xs ys (rest, same_tail (f x) (f y) (map f xs ++ rest) (map f ys) is) in
    let head : x ≡ y = alike x y (same_head (f x) (f y) (map f xs ++ rest) (map f ys) is) in
    (more, ap (λ z. z ∷ xs ++ more) head ∙ ap (λ zs. y ∷ zs) grown)

-- ---- numbers that count on from one

Counts : ℕ → List ℕ → Type 0
Counts low [] = Unit {0}
Counts low (p ∷ ps) = (p ≡ low) × Counts (low + 1) ps

-- what comes after rising places rises
rises_past : (low : ℕ) (xs ys : List ℕ) → RisesFrom low (xs ++ ys) → RisesFrom low ys
rises_past low [] ys rises = rises
rises_past low (x ∷ xs) ys rises =
    rises_from_lower low (x + 1) ys (omega (arith, rises.0)) (rises_past (x + 1) xs ys rises.1)

-- what rises after a member is above it
rises_after : (low v : ℕ) (xs ys : List ℕ) → RisesFrom low (xs ++ ys) → Contains xs v → RisesFrom (v + 1) ys
rises_after low v [] ys rises (k, within, is) = absurd (omega arith)
rises_after low v (x ∷ xs) ys rises (zero, within, is) =
    rises_from_lower (v + 1) (x + 1) ys (omega (arith, is)) (rises_past (x + 1) xs ys rises.1)
rises_after low v (x ∷ xs) ys rises (suc k, within, is) = rises_after (x + 1) v xs ys rises.1 (k, omega arith, is)

-- a member of rising places is no lower than where they rise from
member_above : (low v : ℕ) (ps : List ℕ) → RisesFrom low ps → Contains ps v → low ≤ v
member_above low v [] rises (k, within, is) = absurd (omega arith)
member_above low v (p ∷ ps) rises (zero, within, is) = omega (arith, rises.0, is)
member_above low v (p ∷ ps) rises (suc k, within, is) =
    omega (arith, rises.0, member_above (p + 1) v ps rises.1 (k, omega arith, is))

-- a member that is not the first is among the others
member_later : (v p : ℕ) (ps : List ℕ) → p < v → Contains (p ∷ ps) v → Contains ps v
member_later v p ps above (zero, within, is) = absurd (omega (arith, is))
member_later v p ps above (suc k, within, is) = (k, omega arith, is)

-- rising places below a bound, of which none is missing but perhaps the last below it, count on
-- from where they rise from
counts_on : (low bound : ℕ) (ps : List ℕ) → RisesFrom low ps → AllBelow bound ps
    → ((v : ℕ) → low ≤ v → v + 1 < bound → Contains ps v) → Counts low ps
unfolding Counts
counts_on low bound [] rises below all = tt
counts_on low bound (p ∷ ps) rises below all =
    let first : p ≤ low =
    elim (cases_lt (low + 1) bound) [
      | inl more ↦ first_is (all low (omega arith) more)
      | inr last ↦ omega (arith, below.0)
    ] in
    let here : p ≡ low = omega (arith, rises.0) in (
      here,
      counts_on (low + 1) bound ps (rises_from_lower (low + 1) (p + 1) ps (omega arith) rises.1) below.1
          (λ v above within. member_later v p ps (omega arith) (all v (omega arith) within)),
    )
  where
    first_is : Contains (p ∷ ps) low → p ≤ low
    first_is (zero, within, is) = omega (arith, is)
    first_is (suc k, within, is) = omega (arith, member_above (p + 1) low ps rises.1 (k, omega arith, is))

-- each of them is below `low` plus their number
counted_below : (low v : ℕ) (ps : List ℕ) → Counts low ps → Contains ps v → v < low + length ps
unfolding Counts
counted_below low v [] counts (k, within, is) = absurd (omega arith)
counted_below low v (p ∷ ps) counts (zero, within, is) = omega (arith, counts.0, is)
counted_below low v (p ∷ ps) counts (suc k, within, is) =
    omega (arith, counted_below (low + 1) v ps counts.1 (k, omega arith, is))

-- the entry at a place, and those after it
drop_begins : (xs : List ℕ) (k : ℕ) → k < length xs → drop k xs ≡ get_or xs k 0 ∷ drop (suc k) xs
drop_begins [] k within = absurd (omega arith)
drop_begins (x ∷ xs) zero within = refl
drop_begins (x ∷ xs) (suc k) within = drop_begins xs k (omega arith)

-- what is in a list from a place on that is past its front
pub drop-past : {A : Type 0} (xs ys : List A) (n : ℕ) → drop (length xs + n) (xs ++ ys) ≡ drop n ys
drop-past [] ys n = ap (λ k. drop k ys) (let same : 0 + n ≡ n = omega arith in same)
drop-past (x ∷ xs) ys n =
    let same : suc (length xs) + n ≡ suc (length xs + n) = omega arith in
    ap (λ k. drop k (x ∷ (xs ++ ys))) same ∙ drop-past xs ys n

-- places below a bound, of which the first are left out
below_past : (bound : ℕ) (xs ys : List ℕ) → AllBelow bound (xs ++ ys) → AllBelow bound ys
below_past bound [] ys below = below
below_past bound (x ∷ xs) ys below = below_past bound xs ys below.1

-- a number is a member or it is none
decide_member : (xs : List ℕ) (v : ℕ) → Contains xs v ⊎ (Contains xs v → ⊥)
decide_member [] v = inr (λ (k, within, is). absurd (omega arith))
decide_member (x ∷ xs) v =
    elim (cases_eq x v) [
      | inl same ↦ inl (at_is_member (x ∷ xs) v 0 (record { within = omega arith; is_there = same }))
      | inr other ↦
          elim (decide_member xs v) [
            | inl there ↦
                let (k, here) = member_is_at xs v there in
                inl (at_is_member (x ∷ xs) v (suc k) (record { within = omega (arith, here.within); is_there = here.is_there }))
            | inr absent ↦ inr (not_there x xs v other absent)
          ]
    ]
  where
    not_there : (x : ℕ) (xs : List ℕ) (v : ℕ) → (x ≡ v → ⊥) → (Contains xs v → ⊥) → Contains (x ∷ xs) v → ⊥
    not_there x xs v other absent (zero, within, is) = other is
    not_there x xs v other absent (suc k, within, is) = absent (k, omega arith, is)

-- so the items at them are those of the list from there on
counted_items : (items : List ℕ) (low : ℕ) (ps : List ℕ) → Counts low ps → AllBelow (length items) ps
    → IsPrefix (map (λ place. slice_index items place) ps) (drop low items)
unfolding Counts
counted_items items low [] counts below = (drop low items, refl)
counted_items items low (p ∷ ps) counts below =
    let (rest, is) = counted_items items (low + 1) ps counts.1 below.1 in
    let within : low < length items = omega (arith, counts.0, below.0) in (
      rest,
      ap (λ q. slice_index items q ∷ map (λ place. slice_index items place) ps ++ rest) counts.0
          ∙ (ap (λ xs. slice_index items low ∷ xs) (is ∙ ap (λ n. drop n items) (let same : low + 1 ≡ suc low = omega arith in same))
          ∙ sym (drop_begins items low within)),
    )

-- ---- the link

module _ (p : Parameters) (start : Start) (lawful_params : AreLawful p) (lawful : IsLawful p start) (before after : List Event) where
  abbrev middle : Traced
  middle = traced_replay p (traced_initial start) before

  abbrev end : Traced
  end = traced_replay p (traced_initial start) (before ++ after)

  abbrev kept_middle : Invariant p start 0 (IsFree p start) middle
  kept_middle = every_replay_keeps p start before

  abbrev kept_end : Invariant p start 0 (IsFree p start) end
  kept_end = every_replay_keeps p start (before ++ after)

  abbrev size : ℕ
  size = stray_count start

  -- what was taken in the middle was taken first
  taken_first : IsPrefix kept_middle.taken kept_end.taken
  taken_first =
      let grown : IsPrefix middle.origins end.origins =
      subst (λ t. IsPrefix middle.origins t.origins) (sym (traced-append p (traced_initial start) before after))
      (replay_origins p middle after) in
      prefix_through (origin_at start) (place_of_origin start) kept_middle.taken kept_end.taken
      (subst (λ xs. IsPrefix xs (map (origin_at start) kept_end.taken)) kept_middle.taken_are
      (subst (λ xs. IsPrefix middle.origins xs) kept_end.taken_are grown))

  -- from this item number on none is missing
  module _ (many : 2 * p.capacity + 2 ≤ middle.state.acked) where
    kept_items : (t : Traced) (kept : Invariant p start 0 (IsFree p start) t) (i : ℕ) → 2 * p.capacity + 1 ≤ i → i < t.state.acked
        → Contains kept.taken (size + i)
    kept_items t kept i late passed =
        let (j, within, free) = free_label p start lawful_params lawful in
        (kept.kept.readings j free).none_missing i (omega arith) passed

    more_taken : List ℕ
    more_taken = taken_first.0

    abbrev acked : ℕ
    acked = middle.state.acked

    all_taken : kept_middle.taken ++ more_taken ≡ kept_end.taken
    unfolding more_taken
    all_taken = taken_first.1

    -- where what was taken later begins
    record Begins : Type 0 where
      at : ℕ
      no_earlier : acked ≤ at
      no_later : at ≤ acked + 1
      was_offered : at ≤ length middle.state.offered
      rise : RisesFrom (size + at) more_taken
      none_later : (v : ℕ) → size + at ≤ v → Contains kept_middle.taken v → ⊥

    whole_rise : RisesFrom 0 (kept_middle.taken ++ more_taken)
    whole_rise = subst (λ ps. RisesFrom 0 ps) (sym all_taken) kept_end.kept.delivery.rises

    last_there : Contains kept_middle.taken (size + (acked - 1))
    last_there = kept_items middle kept_middle (acked - 1) (omega arith) (omega arith)

    low_rise : RisesFrom (size + acked) more_taken
    low_rise =
        let one_more : size + (acked - 1) + 1 ≡ size + acked = omega arith in
        subst (λ n. RisesFrom n more_taken) one_more
        (rises_after 0 (size + (acked - 1)) kept_middle.taken more_taken whole_rise last_there)

    -- nothing was taken that was not offered
    middle_below : AllBelow (size + acked + 1) kept_middle.taken
    middle_below =
        let delivery = kept_middle.kept.delivery in
        let sending = kept_middle.kept.sending in
        let one_waits = sending.one_waits_at_most in
        let in_list = delivery.in_list in
        below_higher kept_middle.bound (size + acked + 1) kept_middle.taken (omega arith) delivery.below

    begins : Begins
    begins =
        elim (decide_member kept_middle.taken (size + acked)) [
          | inl there ↦
              let one_more : size + acked + 1 ≡ size + (acked + 1) = omega arith in
              record {
                at = acked + 1;
                no_earlier = omega arith;
                no_later = omega arith;
                was_offered =
                    (let delivery = kept_middle.kept.delivery in
                    let in_list = delivery.in_list in
                    omega (arith, member_is_below kept_middle.bound kept_middle.taken (size + acked) delivery.below there));
                rise =
                    subst (λ n. RisesFrom n more_taken) one_more
                    (rises_after 0 (size + acked) kept_middle.taken more_taken whole_rise there);
                none_later =
                    λ v high among.
                    absurd (omega (arith, member_is_below (size + acked + 1) kept_middle.taken v middle_below among, high));
              }
          | inr absent ↦
              record {
                at = acked;
                no_earlier = omega arith;
                no_later = omega arith;
                was_offered = (let offered = kept_middle.kept.sending.acked_were_offered in omega arith);
                rise = low_rise;
                none_later =
                    λ v high among.
                    let here : v ≡ size + acked =
                    omega (arith, member_is_below (size + acked + 1) kept_middle.taken v middle_below among, high) in
                    absent (subst (λ w. Contains kept_middle.taken w) here among);
              }
        ]

    -- what was taken later lies in the list
    more_below : AllBelow (size + length end.state.offered) more_taken
    more_below =
        let delivery = kept_end.kept.delivery in
        below_past (size + length end.state.offered) kept_middle.taken more_taken
        (subst (λ ps. AllBelow (size + length end.state.offered) ps) (sym all_taken)
        (below_higher kept_end.bound (size + length end.state.offered) kept_end.taken delivery.in_list delivery.below))

    -- and each acknowledged item from there on is among it
    later_taken : (v : ℕ) → size + begins.at ≤ v → v < size + end.state.acked → Contains more_taken v
    later_taken v high within =
        let here : size + (v - size) ≡ v = omega arith in
        let no_earlier = begins.no_earlier in
        let there : Contains kept_end.taken v =
        subst (λ w. Contains kept_end.taken w) here (kept_items end kept_end (v - size) (omega arith) (omega arith)) in
        elim (Contains-append_cases kept_middle.taken more_taken v (subst (λ ps. Contains ps v) (sym all_taken) there)) [
          | inl early ↦ absurd (begins.none_later v high early)
          | inr later ↦ later
        ]

    counts : Counts (size + begins.at) more_taken
    counts =
        let one_waits = kept_end.kept.sending.one_waits_at_most in
        counts_on (size + begins.at) (size + length end.state.offered) more_taken begins.rise more_below
        (λ v high within. later_taken v high (omega arith))

    delivered_later : drop (length middle.state.delivered) end.state.delivered ≡ map (item_at start end.state.offered) more_taken
    delivered_later =
        let many_taken : length middle.state.delivered ≡ length (map (item_at start end.state.offered) kept_middle.taken) =
        ap (λ xs. length xs) kept_middle.kept.delivery.delivered_are
        ∙ (length-map kept_middle.taken (item_at start middle.state.offered)
        ∙ sym (length-map kept_middle.taken (item_at start end.state.offered))) in
        let parts : end.state.delivered
        ≡ map (item_at start end.state.offered) kept_middle.taken ++ map (item_at start end.state.offered) more_taken =
        kept_end.kept.delivery.delivered_are
        ∙ (ap (λ ps. map (item_at start end.state.offered) ps) (sym all_taken)
        ∙ map-append (item_at start end.state.offered) kept_middle.taken more_taken) in
        ap₂ (λ n xs. drop n xs) many_taken parts
        ∙ after_all (map (item_at start end.state.offered) kept_middle.taken) (map (item_at start end.state.offered) more_taken)

    passes_on : PassesOn middle.state end.state
    passes_on =
        let offered = end.state.offered in
        let whole : length (start_items start ++ offered) ≡ size + length offered = length-append (start_items start) offered in
        let in_order : IsPrefix (map (item_at start offered) more_taken) (drop (size + begins.at) (start_items start ++ offered)) =
        counted_items (start_items start ++ offered) (size + begins.at) more_taken counts
        (subst (λ n. AllBelow n more_taken) (sym whole) more_below) in
        let as_many : length (delivered_since middle.state end.state) ≡ length more_taken =
        ap (λ xs. length xs) delivered_later ∙ length-map more_taken (item_at start offered) in
        record {
          from = begins.at;
          no_earlier = begins.no_earlier;
          no_later = begins.no_later;
          was_offered = begins.was_offered;
          in_order =
              subst (λ xs. IsPrefix xs (drop begins.at offered)) (sym delivered_later)
              (subst (λ xs. IsPrefix (map (item_at start offered) more_taken) xs) (drop-past (start_items start) offered begins.at) in_order);
          none_missing = all_there as_many;
        }
      where
        all_there : length (delivered_since middle.state end.state) ≡ length more_taken
            → end.state.acked ≤ begins.at + length (delivered_since middle.state end.state)
        all_there as_many =
            elim (cases_lt (begins.at + length more_taken) end.state.acked) [
              | inl fewer ↦
                  absurd (omega (
                    arith,
                    counted_below (size + begins.at) (size + (begins.at + length more_taken)) more_taken counts
                        (later_taken (size + (begins.at + length more_taken)) (omega arith) (omega arith)),
                  ))
              | inr enough ↦ omega (arith, as_many)
            ]

-- the same of the replays
pub replay_passes_on : (p : Parameters) (start : Start) (before after : List Event) → AreLawful p → IsLawful p start
    → 2 * p.capacity + 2 ≤ (replay p (initial start) before).acked
    → PassesOn (replay p (initial start) before) (replay p (initial start) (before ++ after))
replay_passes_on p start before after lawful_params lawful many =
    let first = traced_replay_state p (traced_initial start) before in
    let second = traced_replay_state p (traced_initial start) (before ++ after) in
    subst (λ m. PassesOn m (replay p (initial start) (before ++ after))) first
    (subst (λ t. PassesOn (traced_replay p (traced_initial start) before).state t) second
    (passes_on p start lawful_params lawful before after (subst (λ m. 2 * p.capacity + 2 ≤ m.acked) (sym first) many)))

-- and with a past
passes_on_shifted : (o d : List ℕ) (m t : LinkState) → PassesOn m t → PassesOn (shifted o d m) (shifted o d t)
passes_on_shifted o d m t on =
    let since : delivered_since (shifted o d m) (shifted o d t) ≡ delivered_since m t =
    ap (λ n. drop n (d ++ t.delivered)) (length-append d m.delivered) ∙ drop-past d t.delivered (length m.delivered) in
    let no_earlier = on.no_earlier in
    let no_later = on.no_later in
    let none_missing = on.none_missing in
    record {
      from = length o + on.from;
      no_earlier = omega arith;
      no_later = omega arith;
      was_offered = omega (arith, on.was_offered, length-append o m.offered);
      in_order =
          subst (λ xs. IsPrefix xs (drop (length o + on.from) (o ++ t.offered))) (sym since)
          (subst (λ ys. IsPrefix (delivered_since m t) ys) (sym (drop-past o t.offered on.from)) on.in_order);
      none_missing = omega (arith, ap (λ xs. length xs) since);
    }

-- From every bounded state, once 2c + 2 items were acknowledged, the link passes on exactly what it
-- is offered.
pub clean_link : (p : Parameters) (s : LinkState) (before after : List Event) → AreLawful p → IsBounded p s
    → 2 * p.capacity + 2 ≤ acked_since s (replay p s before)
    → PassesOn (replay p s before) (replay p (replay p s before) after)
clean_link p s before after lawful bounded many =
    let past = has_past p s bounded in
    let o = past.offers in
    let d = s.delivered in
    let start = start_at s in
    let first = replay p (initial start) (past.events ++ before) in
    let second = replay p (initial start) ((past.events ++ before) ++ after) in
    let middle_is : replay p s before ≡ shifted o d first =
    ap (λ t. replay p t before) past.is
    ∙ (replay_shifted p o d (replay p (initial start) past.events) before
    ∙ ap (λ t. shifted o d t) (sym (replay-append p (initial start) past.events before))) in
    let end_is : replay p (replay p s before) after ≡ shifted o d second =
    ap (λ t. replay p t after) middle_is
    ∙ (replay_shifted p o d first after ∙ ap (λ t. shifted o d t) (sym (replay-append p (initial start) (past.events ++ before) after))) in
    let counted : acked_since s (replay p s before) ≡ first.acked =
    ap (λ t. acked_since s t) middle_is ∙ omega (arith, past.as_many) in
    subst (λ m. PassesOn m (replay p (replay p s before) after)) (sym middle_is)
    (subst (λ t. PassesOn (shifted o d first) t) (sym end_is)
    (passes_on_shifted o d first second (replay_passes_on p start (past.events ++ before) after lawful bounded.lawful (omega arith))))
