-- What is at a place of lists that follow one another, and which event is the last one of a list.
use Rattle.std.proofs.Common.{◌≡◌, ℕ, zero, suc, ◌-◌, ◌<◌, ◌≤◌, List, [], ◌∷◌, ◌++◌, length}
use Rattle.std.proofs.Common.{replicate, slice_get, Some, refl, ap, ◌∙◌, arith}
use Rattle.std.proofs.lemmas.List.{length-append, length-replicate}
use Rattle.std.proofs.lemmas.Option.{slice_get_within}
use Rattle.stab_core.specs.declared.event.Event.{Event}
use Rattle.stab_lock.specs.History.{IsLast}

-- in the first list
pub slice_get-append_left : {A : Type 0} (xs ys : List A) (i : ℕ) → i < length xs
    → slice_get (xs ++ ys) i ≡ slice_get xs i
slice_get-append_left [] ys i within = absurd (omega arith)
slice_get-append_left (x ∷ xs) ys zero within = refl
slice_get-append_left (x ∷ xs) ys (suc i) within = slice_get-append_left xs ys i (omega arith)

-- in the second list
pub slice_get-append_right : {A : Type 0} (xs ys : List A) (i : ℕ) → length xs ≤ i
    → slice_get (xs ++ ys) i ≡ slice_get ys (i - length xs)
slice_get-append_right [] ys i past = let same : i ≡ i - 0 = omega arith in ap (slice_get ys) same
slice_get-append_right (x ∷ xs) ys zero past = absurd (omega arith)
slice_get-append_right (x ∷ xs) ys (suc i) past =
    let same : i - length xs ≡ suc i - suc (length xs) = omega arith in
    slice_get-append_right xs ys i (omega arith) ∙ ap (slice_get ys) same

-- in a list of equal elements
pub slice_get-replicate : {A : Type 0} (n : ℕ) (x : A) (i : ℕ) → i < n
    → slice_get (replicate n x) i ≡ Some x
slice_get-replicate zero x i within = absurd (omega arith)
slice_get-replicate (suc n) x zero within = refl
slice_get-replicate (suc n) x (suc i) within = slice_get-replicate n x i (omega arith)

-- the last event of the second of two lists is the last one of both
pub last_of_second : (xs ys : List Event) (e : Event) → IsLast e ys → IsLast e (xs ++ ys)
last_of_second xs ys e last =
    let some : length ys - 1 < length ys = slice_get_within ys (length ys - 1) e last in
    let past : length xs ≤ length (xs ++ ys) - 1 = omega (arith, length-append xs ys) in
    let same : length (xs ++ ys) - 1 - length xs ≡ length ys - 1 =
    omega (arith, length-append xs ys)
    in
    slice_get-append_right xs ys (length (xs ++ ys) - 1) past ∙ (ap (slice_get ys) same ∙ last)

-- the last event of a run is its own
pub last_of_run : (xs : List Event) (n : ℕ) (e : Event) → 1 ≤ n → IsLast e (xs ++ replicate n e)
last_of_run xs n e some =
    let within : length (replicate n e) - 1 < n = omega (arith, length-replicate n e) in
    last_of_second xs (replicate n e) e
    (slice_get-replicate n e (length (replicate n e) - 1) within)
