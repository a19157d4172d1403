-- Turning a list, and taking one entry out of it.
-- Once round without the entry at a place is `without`; after the last entry there is nothing to
-- take out.
use Rattle.std.proofs.Common.{◌≡◌, ℕ, zero, suc, ◌+◌, ◌<◌, ◌≤◌, List, [], ◌∷◌, ◌++◌, length, take, drop}
use Rattle.std.proofs.Common.{refl, sym, ap, arith, append_assoc, add-one, drop_at, take_at, drop-drop, take-add, length-drop, slice_get, unwrap_or, Some}
use Rattle.std.proofs.lemmas.List.{drop-append-le, take-append-le}
use Rattle.stab_frames.specs.Queue.{turned, without}

module _ {A : Type 0} where
  -- a front that is there is the first entry
  pub front_alone : (xs : List A) (x : A) → slice_get xs 0 ≡ Some x → (take 1 xs ≡ x ∷ []) × (length xs ≡ suc (length (drop 1 xs)))
  front_alone [] x front = absurd (cc)
  front_alone (y ∷ ys) x front = (ap (λ o. unwrap_or o x ∷ []) front, refl)

  -- the turn of one entry after those of k
  pub turned_next : (xs : List A) (k : ℕ) → k < length xs → turned 1 (turned k xs) ≡ turned (k + 1) xs
  turned_next xs k inside =
      let front : 1 ≤ length (drop k xs) = rw (length-drop k xs) (omega (arith, inside)) in
      rw (drop-append-le 1 (drop k xs) (take k xs) front, take-append-le 1 (drop k xs) (take k xs) front, drop-drop 1 k xs, take-add k 1 xs)
      (append_assoc (drop (k + 1) xs) (take k xs) (take 1 (drop k xs)))

  -- past the last entry there is none to take out
  pub without_past : (xs : List A) (i : ℕ) → length xs ≤ i → without i xs ≡ xs
  without_past [] i past = refl
  without_past (x ∷ xs) zero past = absurd (omega arith)
  without_past (x ∷ xs) (suc i) past = ap (λ rest. x ∷ rest) (without_past xs i (omega arith))

  -- the entries before a place, and those after it
  pub without_parts : (xs : List A) (i : ℕ) → without i xs ≡ take i xs ++ drop (suc i) xs
  without_parts [] zero = refl
  without_parts [] (suc i) = refl
  without_parts (x ∷ xs) zero = refl
  without_parts (x ∷ xs) (suc i) = ap (λ rest. x ∷ rest) (without_parts xs i)

  -- once round: the entries before the place go to the back, the one at it is taken, and the n others follow
  pub lost_within : (xs : List A) (i n : ℕ) → i + n + 1 ≡ length xs → turned n (drop 1 (turned i xs)) ≡ without i xs
  lost_within xs i n whole =
      let front : 1 ≤ length (drop i xs) = rw (length-drop i xs) (omega (arith, whole)) in
      let others : length (drop (i + 1) xs) ≡ n = rw (length-drop (i + 1) xs) (omega (arith, whole)) in
      rw (
        drop-append-le 1 (drop i xs) (take i xs) front,
        drop-drop 1 i xs,
        drop_at (drop (i + 1) xs) (take i xs) n others,
        take_at (drop (i + 1) xs) (take i xs) n others,
        add-one i,
      )
      (sym (without_parts xs i))
