-- How many items may be missing at a node, and how many are enough, by its depth and the largest
-- capacity.
use Rattle.std.proofs.Common.{◌≡◌, inl, inr, ℕ, zero, suc, ◌+◌, ◌*◌, ◌≤◌, length, Option, Some, None, sym, ◌∙◌, ap, subst, arith}
use Rattle.std.specs.Option.{option_map_or}
use Rattle.std.proofs.lemmas.Option.{none-some, same_Some}
use Rattle.std.proofs.Math.Nat.{max-le, suc-mul}
use Rattle.stab_tree.specs.Nodes.{Nodes, parent_at}
use Rattle.stab_tree.specs.Steps.{ancestor, depth_of}
use Rattle.stab_tree.proofs.Steps.{ancestor-none, ancestor-suc}
use Rattle.stab_tree.proofs.ForCallers.{child_is_deeper}
use Rattle.stab_treecore.specs.Paths.{sum_above}
use Rattle.stab_treecore.specs.SharperLaw.{peak_above}
use Rattle.stab_treecore.specs.WholeTree.{WholeTree}
use Rattle.stab_treecore.specs.Moment.{fewest_since, published_since}
use Rattle.stab_treecore.specs.Since.{IsState, capacity_at, gained, moment}
use Rattle.stab_treecore.proofs.Kept.{none_or_some}
use Rattle.stab_convergence.specs.Meanwhile.{IsEnough}

few_of : (number : ℕ → ℕ) (bound : ℕ) (up : Option ℕ) → ((w : ℕ) → number w ≤ bound) → option_map_or number up 0 ≤ bound
few_of number bound None few = omega arith
few_of number bound (Some above) few = few above

module _ (s : WholeTree) (capacity : ℕ) (small : (w : ℕ) → capacity_at s w ≤ capacity) where
  sum_few : (count node : ℕ) → sum_above s.parents (λ w. capacity_at s w + 1) count node ≤ count * (capacity + 1)
  sum_few zero node = omega arith
  sum_few (suc count) node =
      omega (
        arith,
        small node,
        suc-mul count (capacity + 1),
        few_of (sum_above s.parents (λ w. capacity_at s w + 1) count) (count * (capacity + 1)) (parent_at s.parents node) (sum_few count),
      )

  peak_few : (count node : ℕ) → peak_above s.parents (capacity_at s) count node ≤ count * (capacity + 1) + capacity
  peak_few zero node = omega arith
  peak_few (suc count) node =
      let own = small node in
      let product = suc-mul count (capacity + 1) in
      let up = parent_at s.parents node in
      let peaks = few_of (peak_above s.parents (capacity_at s) count) (count * (capacity + 1) + capacity) up (peak_few count) in
      let sums = few_of (sum_above s.parents (λ w. capacity_at s w + 1) count) (count * (capacity + 1)) up (sum_few count) in
      max-le (omega arith) (omega arith)

  -- at depth d at most d(c + 1) + c items may be missing
  pub fewest_by_depth : (node : ℕ) → fewest_since (moment s) node ≤ depth_of s.parents node * (capacity + 1) + capacity
  fewest_by_depth node = peak_few (depth_of s.parents node) node

  -- and c + 1 more are enough
  pub enough_by_depth : (tree : Nodes) (m : WholeTree) (node : ℕ) → IsState tree s
      → depth_of s.parents node * (capacity + 1) + 2 * capacity + 1 ≤ length (published_since (moment s) (gained s m) node) → IsEnough s m node
  enough_by_depth tree m node is many w parent (steps, leads) is_child =
      let own = small w in
      let product = suc-mul (depth_of s.parents parent) (capacity + 1) in
      let deep = ap (λ d. d * (capacity + 1)) (deeper w parent is_child) in
      let above = fewest_by_depth parent in
      omega (arith, many, no_deeper steps node leads, product, deep, above, own)
    where
      deeper : (child above : ℕ) → parent_at s.parents child ≡ Some above → depth_of s.parents child ≡ suc (depth_of s.parents above)
      deeper child above is_child =
          subst (λ ps. parent_at ps child ≡ Some above → depth_of ps child ≡ suc (depth_of ps above)) (sym is.parents)
          (child_is_deeper tree.parents is.is_tree child above) is_child

      -- a node above is no deeper
      no_deeper : (k v : ℕ) → ancestor s.parents k v ≡ Some w
          → depth_of s.parents w * (capacity + 1) ≤ depth_of s.parents v * (capacity + 1)
      no_deeper zero v here =
          subst (λ u. depth_of s.parents w * (capacity + 1) ≤ depth_of s.parents u * (capacity + 1)) (sym (same_Some v w here)) (omega arith)
      no_deeper (suc k) v up =
          elim (none_or_some (parent_at s.parents v)) [
            | inl none ↦ absurd (none-some w (sym (ancestor-none s.parents k v none) ∙ up))
            | inr (u, has_parent) ↦
                omega (
                  arith,
                  no_deeper k u (sym (ancestor-suc s.parents k v u has_parent) ∙ up),
                  suc-mul (depth_of s.parents u) (capacity + 1),
                  ap (λ d. d * (capacity + 1)) (deeper v u has_parent),
                )
          ]
