-- What there is one of per link, by node: links are in the file order of their children, and the
-- root has none.
-- Source: this project's profile.
use Rattle.std.specs.Prelude.{ℕ, List, [], ◌∷◌, Option, Some, None}

-- beside each node what belongs to the link into it
abbrev pub by_child : {A : Type 0} → List (Option ℕ) → List A → List (Option A)
by_child [] xs = []
by_child (None ∷ parents) xs = None ∷ by_child parents xs
by_child (Some parent ∷ parents) [] = None ∷ by_child parents []
by_child (Some parent ∷ parents) (x ∷ xs) = Some x ∷ by_child parents xs
