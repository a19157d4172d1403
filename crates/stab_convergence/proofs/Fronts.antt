-- A front of a list that obeys the tree law obeys it too.
use Rattle.std.proofs.Common.{◌≡◌, ℕ, zero, suc, ◌+◌, ◌-◌, ◌<◌, ◌≤◌, List, [], ◌∷◌, ◌++◌, length, map, take, slice_index, Contains, refl, ◌∙◌, ap, sym, subst, arith}
use Rattle.std.proofs.lemmas.List.{take_at}
use mathlib.Core.List.{IsPrefix}
use Rattle.stab_core.specs.Picks.{AllBelow, Picks, RisesFrom}
use Rattle.stab_core.proofs.ForCallers.{IsAt, at_is_member, lower_is_earlier, member_is_at}
use Rattle.stab_treecore.specs.TreeLaw.{TreeLaw}

rises_taken : (n low : ℕ) (ps : List ℕ) → RisesFrom low ps → RisesFrom low (take n ps)
rises_taken zero low ps rises = tt
rises_taken (suc n) low [] rises = tt
rises_taken (suc n) low (p ∷ ps) rises = (rises.0, rises_taken n (p + 1) ps rises.1)

below_taken : (n bound : ℕ) (ps : List ℕ) → AllBelow bound ps → AllBelow bound (take n ps)
below_taken zero bound ps below = tt
below_taken (suc n) bound [] below = tt
below_taken (suc n) bound (p ∷ ps) below = (below.0, below_taken n bound ps below.1)

taken_map : {A : Type 0} (f : ℕ → A) (n : ℕ) (ps : List ℕ) → take n (map f ps) ≡ map f (take n ps)
taken_map f zero ps = refl
taken_map f (suc n) [] = refl
taken_map f (suc n) (p ∷ ps) = ap (λ xs. f p ∷ xs) (taken_map f n ps)

picks_taken : (n : ℕ) (items places picked : List ℕ) → Picks items places picked → Picks items (take n places) (take n picked)
picks_taken n items places picked picks = record {
  rising = rises_taken n 0 places picks.rising;
  in_list = below_taken n (length items) places picks.in_list;
  the_items = ap (λ xs. take n xs) picks.the_items ∙ taken_map (λ place. slice_index items place) n places;
}

-- the front of a list of two parts
taken_parts : {A : Type 0} (n : ℕ) (xs ys : List A) → take n (xs ++ ys) ≡ take n xs ++ take (n - length xs) ys
taken_parts n [] ys = ap (λ k. take k ys) (let same : n ≡ n - 0 = omega arith in same) ∙ nothing n ys
  where
    nothing : {B : Type 0} (n : ℕ) (ys : List B) → take (n - 0) ys ≡ take n [] ++ take (n - 0) ys
    nothing zero ys = refl
    nothing (suc n) ys = refl
taken_parts zero (x ∷ xs) ys = ap (λ k. take k ys) (let same : 0 ≡ 0 - suc (length xs) = omega arith in same)
taken_parts (suc n) (x ∷ xs) ys =
    ap (λ zs. x ∷ zs) (taken_parts n xs ys)
    ∙ ap (λ k. x ∷ take n xs ++ take k ys) (let same : n - length xs ≡ suc n - suc (length xs) = omega arith in same)

taken_short : {A : Type 0} (n : ℕ) (xs : List A) → length (take n xs) ≤ length xs
taken_short zero xs = omega arith
taken_short (suc n) [] = omega arith
taken_short (suc n) (x ∷ xs) = omega (arith, taken_short n xs)

-- a member of the front has a place there
abbrev IsEarly : ℕ → ℕ → List ℕ → Type 0
IsEarly n x xs = (k : ℕ) × IsAt xs x k × (k < n)

one_later : (n x y : ℕ) (ys : List ℕ) → IsEarly n x ys → IsEarly (suc n) x (y ∷ ys)
one_later n x y ys (k, at, early) =
    (suc k, record { within = omega (arith, at.within); is_there = at.is_there }, omega (arith, early))

early_or_later : (n x y : ℕ) (ys : List ℕ) → (Contains (take n ys) x → IsEarly n x ys) → (k : ℕ) → IsAt (y ∷ take n ys) x k
    → IsEarly (suc n) x (y ∷ ys)
early_or_later n x y ys rest zero here = (0, record { within = omega arith; is_there = here.is_there }, omega arith)
early_or_later n x y ys rest (suc j) here =
    let within : j < length (take n ys) = omega (arith, here.within) in
    one_later n x y ys (rest (at_is_member (take n ys) x j (record { within = within; is_there = here.is_there })))

member_of_front : (n x : ℕ) (xs : List ℕ) → Contains (take n xs) x → IsEarly n x xs
member_of_front zero x xs there = let (k, here) = member_is_at [] x there in absurd (omega (arith, here.within))
member_of_front (suc n) x [] there = let (k, here) = member_is_at [] x there in absurd (omega (arith, here.within))
member_of_front (suc n) x (y ∷ ys) there =
    let (k, here) = member_is_at (y ∷ take n ys) x there in
    early_or_later n x y ys (member_of_front n x ys) k here

-- and what has an early place is in the front
early_member : (n k x : ℕ) (xs : List ℕ) → k < n → IsAt xs x k → Contains (take n xs) x
early_member zero k x xs early here = absurd (omega (arith, early))
early_member (suc n) k x [] early here = absurd (omega (arith, here.within))
early_member (suc n) zero x (y ∷ ys) early here =
    at_is_member (y ∷ take n ys) x 0 (record { within = omega arith; is_there = here.is_there })
early_member (suc n) (suc k) x (y ∷ ys) early here =
    let (j, there) =
    member_is_at (take n ys) x (early_member n k x ys (omega (arith, early)) (record { within = omega (arith, here.within); is_there = here.is_there })) in
    at_is_member (y ∷ take n ys) x (suc j) (record { within = omega (arith, there.within); is_there = there.is_there })

law_of_front : (n most_strays most_missing : ℕ) (garbage published list : List ℕ) → TreeLaw most_strays most_missing garbage published list
    → TreeLaw most_strays most_missing garbage published (take n list)
law_of_front n most_strays most_missing garbage published list (places, half, none_missing) =
    let k : ℕ = n - length half.strays in (
      take k places,
      record {
        strays = take n half.strays;
        stray_places = take n half.stray_places;
        taken = take k half.taken;
        parts = ap (λ xs. take n xs) half.parts ∙ taken_parts n half.strays half.taken;
        few_strays = omega (arith, half.few_strays, taken_short n half.strays);
        strays_picked = picks_taken n garbage half.stray_places half.strays half.strays_picked;
        taken_picked = picks_taken k published places half.taken half.taken_picked;
      },
      λ i q enough before last.
          let (j, there, early) = member_of_front k q places last in
          let (l, here) = member_is_at places i (none_missing i q enough before (at_is_member places q j there)) in
          let earlier : l < j =
          lower_is_earlier 0 places l j half.taken_picked.rising here.within there.within (omega (arith, here.is_there, there.is_there, before)) in
          early_member k l i places (omega (arith, earlier, early)) here,
    )

pub front_law : (most_strays most_missing : ℕ) (garbage published list front : List ℕ) → TreeLaw most_strays most_missing garbage published list
    → IsPrefix front list → TreeLaw most_strays most_missing garbage published front
front_law most_strays most_missing garbage published list front law (rest, is) =
    let same : take (length front) list ≡ front = ap (take (length front)) (sym is) ∙ take_at front rest _ refl in
    subst (TreeLaw most_strays most_missing garbage published) same
    (law_of_front (length front) most_strays most_missing garbage published list law)
