-- A link is named by its child; links are in the file order of their children
-- (this project's profile).
use Rattle.std.specs.Prelude.{◌≡◌, ℕ, suc, ◌+◌, ◌<◌, ◌==◌, List, [], ◌∷◌, length, slice_get, Option}
use Rattle.std.specs.Prelude.{Some, None}
use Rattle.std.specs.List.{position}
use Rattle.stab_tree.specs.Nodes.{parent_at}

-- the children among the nodes from place w on
abbrev pub links_from : ℕ → List (Option ℕ) → List ℕ
links_from w [] = []
links_from w (None ∷ parents) = links_from (suc w) parents
links_from w (Some p ∷ parents) = w ∷ links_from (suc w) parents

-- the children in file order, one for each link
abbrev pub links_of : List (Option ℕ) → List ℕ
links_of parents = links_from 0 parents

-- which of the links leads into w
abbrev pub link_place_of : List (Option ℕ) → ℕ → Option ℕ
link_place_of parents w = position (λ child. child == w) (links_of parents)

-- one link for each node but one, each at a place of its own, in file order
pub record HasLinks (parents : List (Option ℕ)) : Type 0 where
  pub number : length (links_of parents) + 1 ≡ length parents
  pub of_place : (k w : ℕ) → slice_get (links_of parents) k ≡ Some w
      → (link_place_of parents w ≡ Some k)
      × ((p : ℕ) × (parent_at parents w ≡ Some p))
      × (w < length parents)
  pub of_child : (w p : ℕ) → parent_at parents w ≡ Some p
      → (k : ℕ) × (link_place_of parents w ≡ Some k) × (slice_get (links_of parents) k ≡ Some w)
  pub in_order : (j k v w : ℕ) → j < k
      → slice_get (links_of parents) j ≡ Some v → slice_get (links_of parents) k ≡ Some w → v < w
