-- The rest of a list that obeys the tree law, from a place on.
use Rattle.std.proofs.Common.{◌≡◌, ℕ, zero, suc, ◌+◌, ◌-◌, ◌≤◌, List, [], ◌∷◌, ◌++◌, length, map, drop, slice_index, Contains, refl, ◌∙◌, ap, arith}
use Rattle.std.proofs.lemmas.List.{length-drop}
use Rattle.stab_core.specs.Picks.{AllBelow, Picks, RisesFrom}
use Rattle.stab_core.proofs.ForCallers.{IsAt, at_is_member, member_is_at, rises_from_lower}
use Rattle.stab_treecore.specs.TreeLaw.{TreeLaw}
use Rattle.stab_treecore.proofs.ForChanges.{enough_before}

rises_dropped : (n low : ℕ) (ps : List ℕ) → RisesFrom low ps → RisesFrom low (drop n ps)
rises_dropped zero low ps rises = rises
rises_dropped (suc n) low [] rises = tt
rises_dropped (suc n) low (p ∷ ps) rises =
    rises_from_lower low (p + 1) (drop n ps) (omega (arith, rises.0)) (rises_dropped n (p + 1) ps rises.1)

below_dropped : (n bound : ℕ) (ps : List ℕ) → AllBelow bound ps → AllBelow bound (drop n ps)
below_dropped zero bound ps below = below
below_dropped (suc n) bound [] below = tt
below_dropped (suc n) bound (p ∷ ps) below = below_dropped n bound ps below.1

dropped_map : {A : Type 0} (f : ℕ → A) (n : ℕ) (ps : List ℕ) → drop n (map f ps) ≡ map f (drop n ps)
dropped_map f zero ps = refl
dropped_map f (suc n) [] = refl
dropped_map f (suc n) (p ∷ ps) = dropped_map f n ps

picks_dropped : (n : ℕ) (items places picked : List ℕ) → Picks items places picked → Picks items (drop n places) (drop n picked)
picks_dropped n items places picked picks = record {
  rising = rises_dropped n 0 places picks.rising;
  in_list = below_dropped n (length items) places picks.in_list;
  the_items = ap (λ xs. drop n xs) picks.the_items ∙ dropped_map (λ place. slice_index items place) n places;
}

-- a list from a place on, of two parts
dropped_parts : {A : Type 0} (n : ℕ) (xs ys : List A) → drop n (xs ++ ys) ≡ drop n xs ++ drop (n - length xs) ys
dropped_parts n [] ys = ap (λ k. drop k ys) (let same : n ≡ n - 0 = omega arith in same) ∙ nothing n ys
  where
    nothing : {B : Type 0} (n : ℕ) (ys : List B) → drop (n - 0) ys ≡ drop n [] ++ drop (n - 0) ys
    nothing zero ys = refl
    nothing (suc n) ys = refl
dropped_parts zero (x ∷ xs) ys = ap (λ k. x ∷ xs ++ drop k ys) (let same : 0 ≡ 0 - suc (length xs) = omega arith in same)
dropped_parts (suc n) (x ∷ xs) ys =
    dropped_parts n xs ys ∙ ap (λ k. drop n xs ++ drop k ys) (let same : n - length xs ≡ suc n - suc (length xs) = omega arith in same)

-- a member from a place on is a member
member_dropped : (n x : ℕ) (xs : List ℕ) → Contains (drop n xs) x → Contains xs x
member_dropped zero x xs there = there
member_dropped (suc n) x [] there = there
member_dropped (suc n) x (y ∷ ys) there =
    let (k, here) = member_is_at ys x (member_dropped n x ys there) in
    at_is_member (y ∷ ys) x (suc k) (record { within = omega (arith, here.within); is_there = here.is_there })

-- and one with a late place is a member from there on
late_member : (n k x : ℕ) (xs : List ℕ) → n ≤ k → IsAt xs x k → Contains (drop n xs) x
late_member zero k x xs late here = at_is_member xs x k here
late_member (suc n) k x [] late here = absurd (omega (arith, here.within))
late_member (suc n) zero x (y ∷ ys) late here = absurd (omega arith)
late_member (suc n) (suc k) x (y ∷ ys) late here =
    late_member n k x ys (omega arith) (record { within = omega (arith, here.within); is_there = here.is_there })

-- Without its first `n` items a list may have `n` strays fewer, and `n` more items may be missing.
pub law_of_rest : (n most_strays most_missing : ℕ) (garbage published list : List ℕ) → TreeLaw most_strays most_missing garbage published list
    → TreeLaw (most_strays - n) (most_missing + n) garbage published (drop n list)
law_of_rest n most_strays most_missing garbage published list (places, half, none_missing) =
    let k : ℕ = n - length half.strays in
    let few = half.few_strays in (
      drop k places,
      record {
        strays = drop n half.strays;
        stray_places = drop n half.stray_places;
        taken = drop k half.taken;
        parts = ap (λ xs. drop n xs) half.parts ∙ dropped_parts n half.strays half.taken;
        few_strays = omega (arith, length-drop n half.strays);
        strays_picked = picks_dropped n garbage half.stray_places half.strays half.strays_picked;
        taken_picked = picks_dropped k published places half.taken half.taken_picked;
      },
      λ i q enough before last.
          let last_there = member_dropped k q places last in
          let (j, here) = member_is_at places i (none_missing i q (omega arith) before last_there) in
          let late : n ≤ j = enough_before most_missing n i q j places none_missing half.taken_picked.rising last_there enough before here in
          late_member k j i places (omega arith) here,
    )
