-- The depth of a node is the number of its parent steps to the root (this project's profile).
use Rattle.std.specs.Prelude.{◌≡◌, ℕ, ◌+◌, ◌<◌, List, length, Option, Some, None}
use Rattle.stab_tree.specs.Nodes.{parent_at, root_of}
use Rattle.stab_tree.specs.Steps.{ancestor, depth_of}

-- k parent steps lead from w to a node without a parent
abbrev pub EndsAfter : List (Option ℕ) → ℕ → ℕ → Type 0
EndsAfter parents w k =
    (r : ℕ) × (ancestor parents k w ≡ Some r) × (parent_at parents r ≡ None)

-- The root has depth 0, and each other node one more than its parent. As many steps lead from a
-- node to the root, and they are fewer than the nodes.
pub record HasDepths (parents : List (Option ℕ)) : Type 0 where
  pub root_depth : depth_of parents (root_of parents) ≡ 0
  pub child_depth : (w p : ℕ) → w < length parents → parent_at parents w ≡ Some p
      → depth_of parents w ≡ depth_of parents p + 1
  pub steps : (w : ℕ) → w < length parents
      → ancestor parents (depth_of parents w) w ≡ Some (root_of parents)
  pub below : (w : ℕ) → w < length parents → depth_of parents w < length parents
