-- What breaks the laws of a link: an acknowledged item that was not delivered, a stray too many, an
-- item too many.
use Rattle.std.proofs.Common.{◌≡◌, ◌≢◌, ℕ, zero, suc, ◌+◌, ◌<◌, ◌≤◌, List, [], ◌∷◌, ◌++◌, ◌-◌, length, fold, slice_index, Contains, ap, sym, ◌∙◌, subst, arith}
use Rattle.std.specs.List.{AllByRecursion as Each}
use Rattle.std.proofs.Math.Seq.{get_or-append_right}
use Rattle.std.proofs.lemmas.List.{length-append}
use Rattle.std.proofs.lemmas.List.Elements.{Contains-append_right, Contains-get_or}
use Rattle.stab_core.specs.CounterExamples.{two_labels, two_labels_start, two_labels_events, four_labels, any_ack_step, any_ack_start, any_ack_events, any_frame_step, any_frame_start, any_frame_events}
use Rattle.stab_core.specs.LinkLaw.{HalfLawAt, HalfLaw, LinkLawWithin, LinkLaw}
use Rattle.stab_core.specs.Replay.{initial, replay, start_items}
use Rattle.stab_core.proofs.ForCallers.{chosen_is_member, few_picked, picked_is_member}

-- what differs from each entry is no member
no_member : (x : ℕ) (xs : List ℕ) → Each (λ y. y ≢ x) xs → Contains xs x → ⊥
no_member x [] apart (k, within, is) = absurd (omega arith)
no_member x (y ∷ ys) apart (zero, within, is) = apart.0 is
no_member x (y ∷ ys) apart (suc k, within, is) = no_member x ys apart.1 (k, omega arith, is)

module _ (most_strays : ℕ) (start_items offered : List ℕ) (acked : ℕ) (delivered : List ℕ) where
  -- an offered item at a place that was taken was delivered
  pub delivered_at : (places : List ℕ) (i : ℕ) → HalfLawAt most_strays start_items offered acked delivered places
      → Contains places i → Contains delivered (slice_index offered i)
  delivered_at places i half taken =
      let item : ℕ = slice_index offered i in
      let picked : Contains half.taken item =
      subst (λ (xs : List ℕ). Contains xs item) (sym half.taken_picked.the_items) (chosen_is_member offered places i taken) in
      subst (λ (xs : List ℕ). Contains xs item) (sym half.parts) (Contains-append_right half.strays half.taken item picked)

  -- an acknowledged item that is not among the first ones, and was not delivered, breaks the link
  -- law
  missing_breaks : (most_missing i : ℕ) → most_missing ≤ i → i < acked → Each (λ y. y ≢ slice_index offered i) delivered
      → LinkLawWithin most_strays most_missing start_items offered acked delivered → ⊥
  missing_breaks most_missing i late passed apart (places, half, none_missing) =
      no_member (slice_index offered i) delivered apart (delivered_at places i half (none_missing i late passed))

  -- an item that was delivered after as many others as there may be strays was offered
  pub late_was_offered : (places : List ℕ) (k : ℕ) → HalfLawAt most_strays start_items offered acked delivered places
      → most_strays ≤ k → k < length delivered → Contains offered (slice_index delivered k)
  late_was_offered places k half late within =
      let strays : ℕ = length half.strays in
      let whole : length delivered ≡ strays + length half.taken = ap length half.parts ∙ length-append half.strays half.taken in
      let few : strays ≤ k = omega (arith, half.few_strays) in
      let item : slice_index delivered k ≡ slice_index half.taken (k - strays) =
      ap (λ (xs : List ℕ). slice_index xs k) half.parts ∙ get_or-append_right half.strays half.taken k 0 few in
      rw item
      (picked_is_member offered places half.taken (slice_index half.taken (k - strays)) half.taken_picked
      (Contains-get_or half.taken (k - strays) 0 (omega arith)))

  -- more delivered items than the start's frames and the offered list have break the half law
  too_many_break : length start_items + length offered < length delivered
      → HalfLaw most_strays start_items offered acked delivered → ⊥
  too_many_break more (places, half) =
      let strays : length half.strays ≤ length start_items =
      few_picked start_items half.stray_places half.strays half.strays_picked in
      let taken : length half.taken ≤ length offered = few_picked offered places half.taken half.taken_picked in
      let whole : length delivered ≡ length (half.strays ++ half.taken) = ap length half.parts in
      omega (arith, length-append half.strays half.taken)

-- with two labels item 14 is acknowledged and was not delivered
pub two_labels_break : let s = replay two_labels (initial two_labels_start) two_labels_events in
    LinkLaw two_labels.capacity (start_items two_labels_start) s.offered s.acked s.delivered → ⊥
two_labels_break =
    missing_breaks 1 (99 ∷ []) (10 ∷ 11 ∷ 12 ∷ 13 ∷ 14 ∷ []) 5 (99 ∷ 11 ∷ 12 ∷ 13 ∷ []) 3 4 (omega arith) (omega arith)
    (omega arith, (omega arith, (omega arith, (omega arith, tt))))

-- where the sender goes on at any acknowledgement item 13 is acknowledged and was not delivered
pub any_ack_breaks : let s = fold (any_ack_step four_labels) (initial any_ack_start) any_ack_events in
    LinkLaw four_labels.capacity (start_items any_ack_start) s.offered s.acked s.delivered → ⊥
any_ack_breaks =
    missing_breaks 1 [] (10 ∷ 11 ∷ 12 ∷ 13 ∷ []) 4 [] 3 3 (omega arith) (omega arith) tt

-- where the receiver takes every frame one item is delivered twice
pub any_frame_breaks : let s = fold (any_frame_step four_labels) (initial any_frame_start) any_frame_events in
    HalfLaw four_labels.capacity (start_items any_frame_start) s.offered s.acked s.delivered → ⊥
any_frame_breaks = too_many_break 1 [] (10 ∷ []) 0 (10 ∷ 10 ∷ []) (omega arith)
