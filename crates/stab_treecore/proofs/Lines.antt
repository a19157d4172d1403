-- What a loop over the places of a list prints.
use Rattle.std.proofs.Common.{◌≡◌, ℕ, zero, suc, ◌+◌, List, ◌++◌, ap, sym, ◌∙◌, append_assoc, add-one, add-zero, arith}
use Rattle.std.proofs.lemmas.List.{append-nil}
use Rattle.std.specs.List.{flat_map, range_with_len}

-- one place more prints its own lines
pub one_more_place : {A : Type 0} (f : ℕ → List A) (first count : ℕ)
    → flat_map f (range_with_len first (suc count)) ≡ flat_map f (range_with_len first count) ++ f (first + count)
one_more_place f first zero = append-nil (f first) ∙ ap f (sym (add-zero first))
one_more_place f first (suc count) =
    let later : (first + 1) + count ≡ first + suc count = omega arith in
    ap (λ rest. f first ++ rest) (one_more_place f (first + 1) count ∙ ap (λ place. flat_map f (range_with_len (first + 1) count) ++ f place) later)
    ∙ sym (append_assoc (f first) (flat_map f (range_with_len (first + 1) count)) (f (first + suc count)))

-- the same, as a loop counts
pub next_place : {A : Type 0} (f : ℕ → List A) (count : ℕ) → flat_map f (range_with_len 0 (count + 1)) ≡ flat_map f (range_with_len 0 count) ++ f count
next_place f count = rw add-one (one_more_place f 0 count ∙ ap (λ place. flat_map f (range_with_len 0 count) ++ f place) (omega arith))
