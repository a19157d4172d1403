-- What a list prints, entry by entry.
use Rattle.std.proofs.Common.{◌≡◌, ℕ, zero, suc, ◌+◌, List, [], ◌∷◌, ◌++◌, take, slice_get, option_to_list, refl, ap, sym, ◌∙◌, append_assoc, add-one}
use Rattle.std.specs.List.{flat_map}

-- one entry more prints what the entry prints, where there is one
pub one_more_entry : {X A : Type 0} (f : X → List A) (xs : List X) (i : ℕ)
    → flat_map f (take (suc i) xs) ≡ flat_map f (take i xs) ++ flat_map f (option_to_list (slice_get xs i))
one_more_entry f [] zero = refl
one_more_entry f [] (suc i) = refl
one_more_entry f (x ∷ xs) zero = refl
one_more_entry f (x ∷ xs) (suc i) = ap (λ rest. f x ++ rest) (one_more_entry f xs i) ∙ sym (append_assoc (f x) (flat_map f (take i xs)) _)

-- the same, as a loop counts
pub next_entry : {X A : Type 0} (f : X → List A) (xs : List X) (i : ℕ)
    → flat_map f (take (i + 1) xs) ≡ flat_map f (take i xs) ++ flat_map f (option_to_list (slice_get xs i))
next_entry f xs i = rw add-one (one_more_entry f xs i)
