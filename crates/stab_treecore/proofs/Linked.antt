-- Which nodes have a link: those that have a parent.
use Rattle.std.proofs.Common.{◌≡◌, ℕ, zero, suc, List, [], ◌∷◌, get_or, set, map, false, Option, None, is_some, refl, ap, sym, ◌∙◌}

-- whether there is something at a place
pub some_at : {A : Type 0} (xs : List (Option A)) (i : ℕ) → get_or (map is_some xs) i false ≡ is_some (get_or xs i None)
some_at [] i = refl
some_at (x ∷ xs) zero = refl
some_at (x ∷ xs) (suc i) = some_at xs i

-- of two lists that have something at the same places, both have or neither has something at this
-- place
pub same_kind : {A B : Type 0} (xs : List (Option A)) (ys : List (Option B)) (i : ℕ) → map is_some xs ≡ map is_some ys
    → is_some (get_or xs i None) ≡ is_some (get_or ys i None)
same_kind xs ys i same = sym (some_at xs i) ∙ (ap (λ bs. get_or bs i false) same ∙ some_at ys i)

-- a list that is written at a place where both or neither is something has something at the same
-- places
pub kind-set : {A : Type 0} (xs : List (Option A)) (i : ℕ) (x : Option A) → is_some x ≡ is_some (get_or xs i None)
    → map is_some (set xs i x) ≡ map is_some xs
kind-set [] i x same = refl
kind-set (y ∷ ys) zero x same = ap (λ b. b ∷ map is_some ys) same
kind-set (y ∷ ys) (suc i) x same = ap (λ bs. is_some y ∷ bs) (kind-set ys i x same)
