-- What there is one of per link, scattered to the nodes that the links lead from.
-- Example: Nodes a, r, b, c with the parents 1, nothing, 0, 1: the links are those into 0, 2 and 3.
-- Of 10, 20, 30, one per link, `by_parent` is 20 at a, then 10, 30 at r, and nothing at b and c.
-- Source: this project's profile.
use Rattle.std.specs.Prelude.{ℕ, ◌==◌, List, [], ◌∷◌, length, map, Option, Some, None}
use Rattle.std.specs.Prelude.{if◌then◌else◌}
use Rattle.std.specs.List.{range_with_len}
use Rattle.stab_tree.specs.Links.{links_of}

-- what belongs to the links from a node to its children, in their file order
abbrev pub to_children : {A : Type 0} → ℕ → List (Option ℕ) → List A → List A
to_children node [] xs = []
to_children node (None ∷ parents) xs = to_children node parents xs
to_children node (Some parent ∷ parents) [] = []
to_children node (Some parent ∷ parents) (x ∷ xs) =
    if parent == node then x ∷ to_children node parents xs else to_children node parents xs

-- beside each node what belongs to the links to its children, in their file order
abbrev pub by_parent : {A : Type 0} → List (Option ℕ) → List A → List (List A)
by_parent parents xs = map (λ node. to_children node parents xs) (range_with_len 0 (length parents))

-- beside each node how many children it has
abbrev pub child_counts : List (Option ℕ) → List ℕ
child_counts parents = map (λ children. length children) (by_parent parents (links_of parents))
