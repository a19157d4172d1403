-- Parent steps: where they lead, and how many lead to a node without a parent
-- (this project's profile).
use Rattle.std.specs.Prelude.{◌≡◌, ℕ, zero, suc, List, length, Option, Some, None, option_map}
use Rattle.std.specs.Prelude.{option_and_then, unwrap_or}
use Rattle.std.specs.Option.{option_map_or}
use Rattle.stab_tree.specs.Nodes.{parent_at}

-- the node that k parent steps from w lead to, where there are k of them
abbrev pub ancestor : List (Option ℕ) → ℕ → ℕ → Option ℕ
ancestor parents zero w = Some w
ancestor parents (suc k) w = option_and_then (ancestor parents k) (parent_at parents w)

-- w reaches r by parent steps
abbrev pub Reaches : List (Option ℕ) → ℕ → ℕ → Type 0
Reaches parents w r = (k : ℕ) × (ancestor parents k w ≡ Some r)

-- the number of parent steps from w to a node without a parent, where it is below this limit
abbrev pub steps_below : List (Option ℕ) → ℕ → ℕ → Option ℕ
steps_below parents zero w = None
steps_below parents (suc limit) w =
    option_map_or (λ p. option_map suc (steps_below parents limit p)) (parent_at parents w) (Some 0)

-- the depth of w, and nothing where its parent steps never end
abbrev pub depth_at : List (Option ℕ) → ℕ → Option ℕ
depth_at parents w = steps_below parents (length parents) w

-- the depth of w in a tree
unfoldable pub depth_of : List (Option ℕ) → ℕ → ℕ
depth_of parents w = unwrap_or (depth_at parents w) 0
