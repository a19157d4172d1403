-- The first place of a list at which a test passes.
use Rattle.std.proofs.Common.{◌≡◌, ◌≢◌, ℕ, ◌+◌, ◌<◌, List, [], ◌∷◌, length, get_or, map, Bool, true, false, not, cond, Option, Some, None, IfSome, IfNone, slice_get, inl, inr, refl, sym, ap, ◌∙◌, arith}
use Rattle.std.proofs.lemmas.Bool.{cases_lt, false≢true, lt-ltb, le-ltb, not-true, not_from_true, not_from_false}
use Rattle.std.proofs.lemmas.List.{length-map}
use Rattle.std.proofs.lemmas.List.Sums.{prefix_len_is, prefix_len_passes}
use Rattle.std.proofs.lemmas.List.Quantifiers.{position-Some}
use Rattle.std.proofs.lemmas.Option.{slice_get-get_or}
use Rattle.std.proofs.lemmas.Slice.Eq.{bytes_eq-Decides}
use Rattle.std.specs.List.{position, position_or_len, All}
use Rattle.std.specs.Str.{bytes_eq}
use Rattle.stab_tree.specs.Nodes.{place_of}

-- the first place at which a test of the image passes, or the length
position_or_len-map : {X Y : Type 0} (p : Y → Bool) (f : X → Y) → (xs : List X) → position_or_len p (map f xs) ≡ position_or_len (λ x. p (f x)) xs
position_or_len-map p f [] = refl
position_or_len-map p f (x ∷ xs) = ap (λ n. cond (not (p (f x))) (1 + n) 0) (position_or_len-map p f xs)

-- the first place at which a test of the image passes, where there is one
pub position-map : {X Y : Type 0} (p : Y → Bool) (f : X → Y) → (xs : List X) → position p (map f xs) ≡ position (λ x. p (f x)) xs
position-map p f xs = rw (position_or_len-map p f xs, length-map xs f) refl

-- a place at which the test passes, and at none before it, is the first
pub position-is : {X : Type 0} (p : X → Bool) (xs : List X) (k : ℕ) (d : X) → k < length xs → p (get_or xs k d) ≡ true → ((j : ℕ) → j < k → p (get_or xs j d) ≡ false) → position p xs ≡ Some k
position-is p xs k d within passes before =
    let first : position_or_len p xs ≡ k = prefix_len_is (λ x. not (p x)) xs k d (omega arith) (λ j h. not_from_false _ (before j h)) (λ _. not_from_true _ passes) in
    rw (first, lt-ltb k (length xs) within) refl

-- where the test passes at no place, there is none
pub position-none : {X : Type 0} (p : X → Bool) (xs : List X) (d : X) → ((j : ℕ) → j < length xs → p (get_or xs j d) ≡ false) → position p xs ≡ None
position-none p xs d fails =
    let past : position_or_len p xs ≡ length xs = prefix_len_is (λ x. not (p x)) xs (length xs) d (omega arith) (λ j h. not_from_false _ (fails j h)) (λ h. absurd (omega arith)) in
    rw (past, le-ltb (length xs) (length xs) (omega arith)) refl

-- where there is no such place, the test passes at none
position-none_at : {X : Type 0} (p : X → Bool) (xs : List X) (k : ℕ) (d : X) → position p xs ≡ None → k < length xs → p (get_or xs k d) ≡ false
position-none_at p xs k d none within =
    elim (cases_lt (position_or_len p xs) (length xs)) [
      | inl h ↦ (let no = lt-ltb _ _ h in cc)
      | inr h ↦ not-true _ (prefix_len_passes (λ x. not (p x)) xs k d (omega arith))
    ]

-- the node that a name finds has it
pub place_found : (names : List (List ℕ)) (name : List ℕ) (o : Option ℕ) → o ≡ place_of names name → IfSome o (λ node. slice_get names node ≡ Some name)
place_found names name None found = tt
place_found names name (Some i) found =
    let at = position-Some (λ s. bytes_eq s name) names i [] (sym found) in
    slice_get-get_or names i [] at.0 ∙ ap Some ((bytes_eq-Decides _ name).0 at.1)

-- a name that finds no node is the name of none
pub place_absent : (names : List (List ℕ)) (name : List ℕ) (o : Option ℕ) → o ≡ place_of names name → IfNone o (All (λ s. s ≢ name) names)
place_absent names name None absent =
    λ k d within same. false≢true (sym (position-none_at (λ s. bytes_eq s name) names k d (sym absent) within) ∙ (bytes_eq-Decides _ name).1 same)
place_absent names name (Some i) absent = tt
