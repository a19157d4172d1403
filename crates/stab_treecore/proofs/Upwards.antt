-- The step from a parent to its child: places in the parent's list, parted where its strays end.
use Rattle.std.proofs.Common.{◌≡◌, ℕ, ◌+◌, ◌-◌, ◌*◌, ◌<◌, ◌≤◌, max, inl, inr, slice_index, List, [], ◌++◌, length, get_or, refl, ap, sym, ◌∙◌, subst, arith, append_assoc}
use Rattle.std.specs.Prelude.{Contains}
use mathlib.Core.List.{IsPrefix}
use Rattle.std.proofs.Math.Nat.{le-max_left, le-max_right}
use Rattle.std.proofs.lemmas.Bool.{cases_lt}
use Rattle.std.proofs.lemmas.List.{length-append, length-map, get_or-map}
use Rattle.std.proofs.lemmas.List.Elements.{Contains-get_or, Contains-append_cases}
use Rattle.stab_core.specs.Picks.{AllBelow, Picks}
use Rattle.stab_core.specs.LinkLaw.{HalfLawAt, NoneMissing, NoneMissingFrom, HalfLaw, LinkLaw, LinkLawWithin, SharperLinkLaw}
use Rattle.stab_core.proofs.ForCallers.{below_bound, few_picked, at_places, picks_chosen, picks_of_prefix, length_picked, raised, picks_joined, Parted, parted, items_parted, member_is_at, at_is_member, lower_is_earlier, member_is_raised, member_is_chosen, chosen_is_member, raised_is_member, member_is_below, IsAt}
use Rattle.stab_treecore.specs.SharperLaw.{SharperCompleteLaw, SharperTreeLaw}
use Rattle.stab_treecore.specs.TreeLaw.{HalfTreeLawAt, NoneMissingBefore, HalfTreeLaw, TreeLaw, CompleteLaw}
use Rattle.stab_treecore.proofs.Members.{enough_before, enough_up_to}
use Rattle.stab_treecore.proofs.Root.{all_places, all_picked, all_lower, all_there}

-- a place that is not raised is among the low ones
member_is_low : (by v : ℕ) (low high : List ℕ) → v < by → Contains (low ++ raised by high) v → Contains low v
member_is_low by v low high below member =
    elim (Contains-append_cases low (raised by high) v member) [
      | inl there ↦ there
      | inr among ↦
          let (k, here) = member_is_at (raised by high) v among in
          let within : k < length high = omega (arith, here.within, length-map high (λ (place : ℕ). by + place)) in
          let is : get_or (raised by high) k 0 ≡ by + get_or high k 0 = get_or-map (λ (place : ℕ). by + place) high k 0 0 within in
          absurd (omega (arith, here.is_there))
    ]

module _ (capacity most_strays acked : ℕ) (start_items garbage published received offered delivered : List ℕ)
    (begins : IsPrefix offered received) where
  module _ (above places : List ℕ)
      (up : HalfTreeLawAt most_strays garbage published received above)
      (link : HalfLawAt capacity start_items offered acked delivered places) where
    -- what the link took from its offered list is picked from the parent's strays and published
    -- items, at the same places
    taken_from_parent : Picks (up.strays ++ up.taken) places link.taken
    taken_from_parent =
        subst (λ list. Picks list places link.taken) (begins.1 ∙ up.parts)
        (picks_of_prefix offered begins.0 places link.taken link.taken_picked)

    -- the places in the parent's list, parted where its strays end
    parts : Parted (length up.strays) (length up.taken) 0 places
    parts =
        parted (length up.strays) (length up.taken) 0 places taken_from_parent.rising
        (subst (λ n. AllBelow n places) (length-append up.strays up.taken) taken_from_parent.in_list)

    -- the half tree law of the child
    child_half : HalfTreeLawAt (most_strays + capacity) (start_items ++ garbage) published delivered (at_places above parts.high)
    child_half =
        let low = parts.low in
        let high = parts.high in
        let low_picked : Picks up.strays low (at_places up.strays low) =
        record { rising = parts.low_rise; in_list = parts.low_below; the_items = refl } in
        let high_picked : Picks up.taken high (at_places up.taken high) =
        record { rising = parts.high_rise; in_list = parts.high_below; the_items = refl } in
        let few_low : length (at_places up.strays low) ≤ length up.strays =
        few_picked up.strays low (at_places up.strays low) low_picked in
        let in_parts : link.taken ≡ at_places up.strays low ++ at_places up.taken high =
        taken_from_parent.the_items
        ∙ (ap (λ ps. at_places (up.strays ++ up.taken) ps) parts.both
        ∙ items_parted up.strays up.taken low high parts.low_below) in
        record {
          strays = link.strays ++ at_places up.strays low;
          stray_places = link.stray_places ++ raised (length start_items) (at_places up.stray_places low);
          taken = at_places up.taken high;
          parts =
              link.parts ∙ (ap (λ xs. link.strays ++ xs) in_parts
              ∙ sym (append_assoc link.strays (at_places up.strays low) (at_places up.taken high)));
          few_strays =
              omega (arith, length-append link.strays (at_places up.strays low), link.few_strays, up.few_strays);
          strays_picked =
              picks_joined start_items garbage link.stray_places (at_places up.stray_places low) link.strays (at_places up.strays low)
              link.strays_picked (picks_chosen garbage up.stray_places up.strays low (at_places up.strays low) up.strays_picked low_picked);
          taken_picked = picks_chosen published above up.taken high (at_places up.taken high) up.taken_picked high_picked;
        }

    -- the link was offered what it took of the parent's published items
    reached_at : (high : List ℕ) (k : ℕ) → k < length high → high ≡ parts.high → length up.strays + get_or high k 0 < length offered
    reached_at high k in_high same =
        let strays = length up.strays in
        member_is_below (length offered) places (strays + get_or high k 0) link.taken_picked.in_list
        (subst (λ ps. Contains ps (strays + get_or high k 0)) (ap (λ hs. parts.low ++ raised strays hs) same ∙ sym parts.both)
        (raised_is_member strays parts.low high (get_or high k 0) (Contains-get_or high k 0 in_high)))

    -- what the child has of the published items, the parent has
    had_above : (q : ℕ) → Contains (at_places above parts.high) q → Contains above q
    had_above q has =
        let (k, in_high, k_is) = member_is_chosen above parts.high q has in
        let as_many : length up.taken ≡ length above = length_picked published above up.taken up.taken_picked in
        let in_taken : get_or parts.high k 0 < length up.taken = below_bound (length up.taken) parts.high k parts.high_below in_high in
        at_is_member above q (get_or parts.high k 0) (record { within = omega arith; is_there = k_is })

    -- Where the child has a later item, and none is missing on the link from this place on, it has
    -- an earlier item whose place in the parent's list is there.
    child_has : (first i q m : ℕ) → NoneMissingFrom first acked places → i < q → Contains (at_places above parts.high) q
        → IsAt above i m → first ≤ length up.strays + m → Contains (at_places above parts.high) i
    child_has first i q m on_link before last there enough =
        let low = parts.low in
        let high = parts.high in
        let strays = length up.strays in
        let (k, in_high, k_is) = member_is_chosen above high q last in
        let last_place = get_or high k 0 in
        let as_many : length up.taken ≡ length above = length_picked published above up.taken up.taken_picked in
        let in_taken : last_place < length up.taken = below_bound (length up.taken) high k parts.high_below in_high in
        let earlier : m < last_place =
        lower_is_earlier 0 above m last_place up.taken_picked.rising there.within (omega arith) (omega (arith, there.is_there)) in
        let acked_before : strays + m < acked = let far = reached_at high k in_high refl in omega (arith, far, link.one_waits_at_most) in
        let taken_here : Contains places (strays + m) = on_link (strays + m) enough acked_before in
        let chosen : Contains high m =
        member_is_raised strays m low high parts.low_below (subst (λ ps. Contains ps (strays + m)) parts.both taken_here) in
        subst (λ x. Contains (at_places above high) x) there.is_there (chosen_is_member above high m chosen)

    -- where none is missing at the parent before its last place, nor on the link, none is missing
    -- at the child
    child_misses : (first most_missing : ℕ) → NoneMissingBefore most_missing above → NoneMissingFrom first acked places
        → NoneMissingBefore (most_missing + first) (at_places above parts.high)
    child_misses first most_missing at_parent on_link i q enough before last =
        let last_above : Contains above q = had_above q last in
        let (m, there) = member_is_at above i (at_parent i q (omega arith) before last_above) in
        let far_enough : first ≤ m =
        enough_before most_missing first i q m above at_parent up.taken_picked.rising last_above enough before there in
        child_has first i q m on_link before last there (omega arith)

    -- where the child has a published item, it has each of the parent's strays but those that were
    -- missing on the link
    strays_kept : (first q : ℕ) → NoneMissingFrom first acked places → Contains (at_places above parts.high) q
        → length up.strays ≤ first + length parts.low
    strays_kept first q on_link last =
        let low = parts.low in
        let strays = length up.strays in
        let (k, in_high, k_is) = member_is_chosen above parts.high q last in
        let far = reached_at parts.high k in_high refl in
        let one_waits = link.one_waits_at_most in
        elim (cases_lt first strays) [
          | inl more ↦
              let kept : NoneMissingFrom first strays low =
              λ v from below. member_is_low strays v low parts.high below
              (subst (λ ps. Contains ps v) parts.both (on_link v from (omega arith))) in
              let (m, there) = member_is_at low (strays - 1) (kept (strays - 1) (omega arith) (omega arith)) in
              let enough : strays - 1 - first ≤ m =
              enough_up_to first (strays - 1 - first) strays (strays - 1) m low kept parts.low_rise (omega arith) (omega arith) there in
              omega (arith, there.within)
          | inr few ↦ omega arith
        ]

    -- how far an item is in the parent's list that comes so much after those that strays were in
    -- the place of
    far_enough : (without first i q m : ℕ) → NoneMissingBefore (without + length up.strays) above → Contains above q
        → without + first ≤ i → i < q → IsAt above i m → first ≤ length up.strays + m
    far_enough without first i q m at_parent last_above enough before there =
        let strays = length up.strays in
        elim (cases_lt strays first) [
          | inl few ↦
              let counted : first - strays ≤ m =
              enough_before (without + strays) (first - strays) i q m above at_parent up.taken_picked.rising last_above (omega arith) before there in
              omega arith
          | inr many ↦ omega arith
        ]

    -- the sharper bound of the child: c + 1 more, and one for each stray that it has
    child_misses_few : (without : ℕ) → NoneMissingBefore (without + length up.strays) above
        → NoneMissingFrom (capacity + 1 + length link.strays) acked places
        → NoneMissingBefore (without + (capacity + 1) + length (link.strays ++ at_places up.strays parts.low)) (at_places above parts.high)
    child_misses_few without at_parent on_link i q enough before last =
        let first : ℕ = capacity + 1 + length link.strays in
        let last_above : Contains above q = had_above q last in
        let strays : length (link.strays ++ at_places up.strays parts.low) ≡ length link.strays + length parts.low =
        length-append link.strays (at_places up.strays parts.low)
        ∙ ap (λ n. length link.strays + n) (length-map parts.low (slice_index up.strays)) in
        let kept = strays_kept first q on_link last in
        let (m, there) = member_is_at above i (at_parent i q (omega arith) before last_above) in
        child_has first i q m on_link before last there
        (far_enough without first i q m at_parent last_above (omega arith) before there)

    -- and 2c + 1 more than what strays were not in the place of, if the parent misses no more
    child_misses_at_most : (without most_missing : ℕ) → NoneMissingBefore (without + length up.strays) above
        → NoneMissingBefore most_missing above → NoneMissingFrom (capacity + 1 + length link.strays) acked places
        → NoneMissingBefore (max most_missing (without + (2 * capacity + 1))) (at_places above parts.high)
    child_misses_at_most without most_missing at_parent at_most on_link i q enough before last =
        let first : ℕ = capacity + 1 + length link.strays in
        let few = link.few_strays in
        let more = le-max_left most_missing (without + (2 * capacity + 1)) in
        let later = le-max_right most_missing (without + (2 * capacity + 1)) in
        let last_above : Contains above q = had_above q last in
        let (m, there) = member_is_at above i (at_most i q (omega arith) before last_above) in
        child_has first i q m on_link before last there
        (far_enough without first i q m at_parent last_above (omega arith) before there)

    -- ---- where the link has all of the parent's list acknowledged

    -- the child has a published item that the parent has so far on
    child_has_acked : (first i m : ℕ) → acked ≡ length received → NoneMissingFrom first acked places → IsAt above i m
        → first ≤ length up.strays + m → Contains (at_places above parts.high) i
    child_has_acked first i m all_acked on_link there enough =
        let low = parts.low in
        let high = parts.high in
        let strays = length up.strays in
        let as_many : length up.taken ≡ length above = length_picked published above up.taken up.taken_picked in
        let in_all : length received ≡ strays + length up.taken = ap (λ xs. length xs) up.parts ∙ length-append up.strays up.taken in
        let acked_before : strays + m < acked = omega (arith, there.within) in
        let taken_here : Contains places (strays + m) = on_link (strays + m) enough acked_before in
        let chosen : Contains high m =
        member_is_raised strays m low high parts.low_below (subst (λ ps. Contains ps (strays + m)) parts.both taken_here) in
        subst (λ x. Contains (at_places above high) x) there.is_there (chosen_is_member above high m chosen)

    -- where no published item is missing at the parent, none is missing at the child
    child_has_all : (most_missing : ℕ) → acked ≡ length received → NoneMissingFrom most_missing (length published) above
        → NoneMissing capacity acked places
        → NoneMissingFrom (most_missing + (2 * capacity + 1)) (length published) (at_places above parts.high)
    child_has_all most_missing all_acked at_parent on_link i enough before =
        let (m, there) = member_is_at above i (at_parent i (omega arith) before) in
        let far_enough : 2 * capacity + 1 ≤ m =
        enough_up_to most_missing (2 * capacity + 1) (length published) i m above at_parent up.taken_picked.rising enough before there in
        child_has_acked (2 * capacity + 1) i m all_acked on_link there (omega arith)

    -- the child has each of the parent's strays but those that were missing on the link
    strays_acked : (first : ℕ) → acked ≡ length received → NoneMissingFrom first acked places → length up.strays ≤ first + length parts.low
    strays_acked first all_acked on_link =
        let low = parts.low in
        let strays = length up.strays in
        let in_all : length received ≡ strays + length up.taken = ap (λ xs. length xs) up.parts ∙ length-append up.strays up.taken in
        elim (cases_lt first strays) [
          | inl more ↦
              let kept : NoneMissingFrom first strays low =
              λ v from below. member_is_low strays v low parts.high below
              (subst (λ ps. Contains ps v) parts.both (on_link v from (omega arith))) in
              let (m, there) = member_is_at low (strays - 1) (kept (strays - 1) (omega arith) (omega arith)) in
              let enough : strays - 1 - first ≤ m =
              enough_up_to first (strays - 1 - first) strays (strays - 1) m low kept parts.low_rise (omega arith) (omega arith) there in
              omega (arith, there.within)
          | inr few ↦ omega arith
        ]

    -- how far an item is in the parent's list that comes so much after those that strays were in
    -- the place of
    far_among_all : (without first i m : ℕ) → NoneMissingFrom (without + length up.strays) (length published) above → without + first ≤ i
        → i < length published → IsAt above i m → first ≤ length up.strays + m
    far_among_all without first i m at_parent enough before there =
        let strays = length up.strays in
        elim (cases_lt strays first) [
          | inl few ↦
              let counted : first - strays ≤ m =
              enough_up_to (without + strays) (first - strays) (length published) i m above at_parent up.taken_picked.rising (omega arith) before there in
              omega arith
          | inr many ↦ omega arith
        ]

    -- the sharper bounds of the complete law
    child_has_all_but_few : (without : ℕ) → acked ≡ length received → NoneMissingFrom (without + length up.strays) (length published) above
        → NoneMissingFrom (capacity + 1 + length link.strays) acked places
        → NoneMissingFrom (without + (capacity + 1) + length (link.strays ++ at_places up.strays parts.low)) (length published)
        (at_places above parts.high)
    child_has_all_but_few without all_acked at_parent on_link i enough before =
        let first : ℕ = capacity + 1 + length link.strays in
        let strays : length (link.strays ++ at_places up.strays parts.low) ≡ length link.strays + length parts.low =
        length-append link.strays (at_places up.strays parts.low)
        ∙ ap (λ n. length link.strays + n) (length-map parts.low (slice_index up.strays)) in
        let kept = strays_acked first all_acked on_link in
        let (m, there) = member_is_at above i (at_parent i (omega arith) before) in
        child_has_acked first i m all_acked on_link there (far_among_all without first i m at_parent (omega arith) before there)

    child_has_all_but_most : (without most_missing : ℕ) → acked ≡ length received
        → NoneMissingFrom (without + length up.strays) (length published) above → NoneMissingFrom most_missing (length published) above
        → NoneMissingFrom (capacity + 1 + length link.strays) acked places
        → NoneMissingFrom (max most_missing (without + (2 * capacity + 1))) (length published) (at_places above parts.high)
    child_has_all_but_most without most_missing all_acked at_parent at_most on_link i enough before =
        let first : ℕ = capacity + 1 + length link.strays in
        let few = link.few_strays in
        let more = le-max_left most_missing (without + (2 * capacity + 1)) in
        let later = le-max_right most_missing (without + (2 * capacity + 1)) in
        let (m, there) = member_is_at above i (at_most i (omega arith) before) in
        child_has_acked first i m all_acked on_link there (far_among_all without first i m at_parent (omega arith) before there)

  -- the half tree law of the child
  pub half_below : HalfTreeLaw most_strays garbage published received → HalfLaw capacity start_items offered acked delivered
      → HalfTreeLaw (most_strays + capacity) (start_items ++ garbage) published delivered
  half_below (above, up) (places, link) = (at_places above (parts above places up link).high, child_half above places up link)

  -- the tree law of the child, with these bounds of the link
  pub within_below : (first most_missing : ℕ) → TreeLaw most_strays most_missing garbage published received
      → LinkLawWithin capacity first start_items offered acked delivered
      → TreeLaw (most_strays + capacity) (most_missing + first) (start_items ++ garbage) published delivered
  within_below first most_missing (above, up, at_parent) (places, link, on_link) = (
    at_places above (parts above places up link).high,
    child_half above places up link,
    child_misses above places up link first most_missing at_parent on_link,
  )

  -- and with those of the link law
  pub law_below : (most_missing : ℕ) → TreeLaw most_strays most_missing garbage published received
      → LinkLaw capacity start_items offered acked delivered
      → TreeLaw (most_strays + capacity) (most_missing + (2 * capacity + 1)) (start_items ++ garbage) published delivered
  law_below = within_below (2 * capacity + 1)

  -- the sharper law of the child
  pub sharper_below : (without most_missing : ℕ) → SharperTreeLaw most_strays without most_missing garbage published received
      → SharperLinkLaw capacity start_items offered acked delivered
      → SharperTreeLaw (most_strays + capacity) (without + (capacity + 1)) (max most_missing (without + (2 * capacity + 1)))
      (start_items ++ garbage) published delivered
  unfolding child_half
  sharper_below without most_missing (above, up, at_parent, at_most) (places, link, on_link) = (
    at_places above (parts above places up link).high,
    child_half above places up link,
    child_misses_few above places up link without at_parent on_link,
    child_misses_at_most above places up link without most_missing at_parent at_most on_link,
  )

  -- the complete law of the child
  pub complete_below : (most_missing : ℕ) → acked ≡ length received → CompleteLaw most_strays most_missing garbage published received
      → LinkLaw capacity start_items offered acked delivered
      → CompleteLaw (most_strays + capacity) (most_missing + (2 * capacity + 1)) (start_items ++ garbage) published delivered
  complete_below most_missing all_acked (above, up, at_parent) (places, link, on_link) = (
    at_places above (parts above places up link).high,
    child_half above places up link,
    child_has_all above places up link most_missing all_acked at_parent on_link,
  )

  -- and the sharper one
  pub sharper_complete_below : (without most_missing : ℕ) → acked ≡ length received
      → SharperCompleteLaw most_strays without most_missing garbage published received
      → SharperLinkLaw capacity start_items offered acked delivered
      → SharperCompleteLaw (most_strays + capacity) (without + (capacity + 1)) (max most_missing (without + (2 * capacity + 1)))
      (start_items ++ garbage) published delivered
  unfolding child_half
  sharper_complete_below without most_missing all_acked (above, up, at_parent, at_most) (places, link, on_link) = (
    at_places above (parts above places up link).high,
    child_half above places up link,
    child_has_all_but_few above places up link without all_acked at_parent on_link,
    child_has_all_but_most above places up link without most_missing all_acked at_parent at_most on_link,
  )

-- ---- a list that begins with an opening

module _ (most_strays : ℕ) (opening garbage published delivered : List ℕ) where
  -- the half tree law of a list that begins with an opening
  half_past_opening : (places : List ℕ) → HalfTreeLawAt most_strays garbage published delivered places
      → HalfTreeLawAt (most_strays + length opening) (opening ++ garbage) published (opening ++ delivered) places
  half_past_opening places half = record {
    strays = opening ++ half.strays;
    stray_places = all_places opening ++ raised (length opening) half.stray_places;
    taken = half.taken;
    parts = ap (λ xs. opening ++ xs) half.parts ∙ sym (append_assoc opening half.strays half.taken);
    few_strays = omega (arith, half.few_strays, length-append opening half.strays);
    strays_picked =
        picks_joined opening garbage (all_places opening) half.stray_places opening half.strays (all_picked opening) half.strays_picked;
    taken_picked = half.taken_picked;
  }

  pub half_law_past_opening : HalfTreeLaw most_strays garbage published delivered
      → HalfTreeLaw (most_strays + length opening) (opening ++ garbage) published (opening ++ delivered)
  half_law_past_opening (places, half) = (places, half_past_opening places half)

  -- the tree law of a list that begins with an opening
  pub law_past_opening : (most_missing : ℕ) → TreeLaw most_strays most_missing garbage published delivered
      → TreeLaw (most_strays + length opening) most_missing (opening ++ garbage) published (opening ++ delivered)
  law_past_opening most_missing (places, half, none_missing) = (places, half_past_opening places half, none_missing)

  -- the complete law of a list that begins with an opening
  pub complete_past_opening : (most_missing : ℕ) → CompleteLaw most_strays most_missing garbage published delivered
      → CompleteLaw (most_strays + length opening) most_missing (opening ++ garbage) published (opening ++ delivered)
  complete_past_opening most_missing (places, half, none_missing) = (places, half_past_opening places half, none_missing)

-- the sharper law of a list that begins with an opening
pub sharper_past_opening : (most_strays without most_missing : ℕ) (opening garbage published delivered : List ℕ)
    → SharperTreeLaw most_strays without most_missing garbage published delivered
    → SharperTreeLaw (most_strays + length opening) without most_missing (opening ++ garbage) published (opening ++ delivered)
unfolding half_past_opening
sharper_past_opening most_strays without most_missing opening garbage published delivered (places, half, few, at_most) = (
  places,
  half_past_opening most_strays opening garbage published delivered places half,
  λ i q enough before last. few i q (omega (arith, length-append opening half.strays)) before last,
  at_most,
)

-- and the sharper complete one
pub sharper_complete_past_opening : (most_strays without most_missing : ℕ) (opening garbage published delivered : List ℕ)
    → SharperCompleteLaw most_strays without most_missing garbage published delivered
    → SharperCompleteLaw (most_strays + length opening) without most_missing (opening ++ garbage) published (opening ++ delivered)
unfolding half_past_opening
sharper_complete_past_opening most_strays without most_missing opening garbage published delivered (places, half, few, at_most) = (
  places,
  half_past_opening most_strays opening garbage published delivered places half,
  λ i enough before. few i (omega (arith, length-append opening half.strays)) before,
  at_most,
)

-- ---- the root, and larger bounds

-- the root has every published item and no stray
root_half : (published : List ℕ) → HalfTreeLawAt 0 [] published published (all_places published)
root_half published = record {
  strays = [];
  stray_places = [];
  taken = published;
  parts = refl;
  few_strays = omega arith;
  strays_picked = record { rising = tt; in_list = tt; the_items = refl };
  taken_picked = all_picked published;
}

pub root_law : (published : List ℕ) → TreeLaw 0 0 [] published published
root_law published =
    (all_places published, root_half published, λ i q enough before last. all_lower published i q before last)

-- no published item is missing at the root
pub root_has_all : (published : List ℕ) → CompleteLaw 0 0 [] published published
root_has_all published = (all_places published, root_half published, λ i enough before. all_there published i before)

-- so the sharper law holds there
pub sharper_root : (published : List ℕ) → SharperTreeLaw 0 0 0 [] published published
unfolding root_half
sharper_root published = (
  all_places published,
  root_half published,
  λ i q enough before last. all_lower published i q before last,
  λ i q enough before last. all_lower published i q before last,
)

pub sharper_root_has_all : (published : List ℕ) → SharperCompleteLaw 0 0 0 [] published published
unfolding root_half
sharper_root_has_all published = (
  all_places published,
  root_half published,
  λ i enough before. all_there published i before,
  λ i enough before. all_there published i before,
)

-- larger bounds hold where smaller ones do
more_strays : (few most_strays : ℕ) (garbage published received places : List ℕ) → few ≤ most_strays
    → HalfTreeLawAt few garbage published received places → HalfTreeLawAt most_strays garbage published received places
more_strays few most_strays garbage published received places more half = record {
  strays = half.strays;
  stray_places = half.stray_places;
  taken = half.taken;
  parts = half.parts;
  few_strays = omega (arith, half.few_strays);
  strays_picked = half.strays_picked;
  taken_picked = half.taken_picked;
}

pub larger_bounds : (few most_strays first most_missing : ℕ) (garbage published received : List ℕ)
    → few ≤ most_strays → first ≤ most_missing
    → TreeLaw few first garbage published received → TreeLaw most_strays most_missing garbage published received
larger_bounds few most_strays first most_missing garbage published received more later (places, half, none_missing) = (
  places,
  more_strays few most_strays garbage published received places more half,
  λ i q enough before last. none_missing i q (omega arith) before last,
)

-- more strays may be allowed, and more items missing
pub sharper_larger : (few most_strays without first most_missing : ℕ) (garbage published received : List ℕ)
    → few ≤ most_strays → first ≤ most_missing → SharperTreeLaw few without first garbage published received
    → SharperTreeLaw most_strays without most_missing garbage published received
unfolding more_strays
sharper_larger few most_strays without first most_missing garbage published received more later (places, half, paid, at_most) = (
  places,
  more_strays few most_strays garbage published received places more half,
  paid,
  λ i q enough before last. at_most i q (omega arith) before last,
)

pub sharper_larger_complete : (few most_strays without most_missing : ℕ) (garbage published received : List ℕ)
    → few ≤ most_strays → SharperCompleteLaw few without most_missing garbage published received
    → SharperCompleteLaw most_strays without most_missing garbage published received
unfolding more_strays
sharper_larger_complete few most_strays without most_missing garbage published received more (places, half, paid, at_most) =
    (places, more_strays few most_strays garbage published received places more half, paid, at_most)

pub larger_complete : (few most_strays first most_missing : ℕ) (garbage published received : List ℕ)
    → few ≤ most_strays → first ≤ most_missing
    → CompleteLaw few first garbage published received → CompleteLaw most_strays most_missing garbage published received
larger_complete few most_strays first most_missing garbage published received more later (places, half, none_missing) = (
  places,
  more_strays few most_strays garbage published received places more half,
  λ i enough before. none_missing i (omega arith) before,
)
