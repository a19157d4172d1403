-- The widest link from a node to its children.
use Rattle.std.proofs.Common.{◌≡◌, ◌==◌, ℕ, zero, suc, ◌+◌, ◌*◌, ◌<◌, ◌≤◌, inl, inr, List, map, max, length, Some, true, false, refl, ap, sym, ◌∙◌, subst, arith, eq-eqb}
use Rattle.std.specs.List.{range_with_len}
use Rattle.std.specs.Option.{option_map_or}
use Rattle.std.proofs.Math.Nat.{le-max_left, le-max_right}
use Rattle.std.proofs.lemmas.Bool.{cases_lt}
use Rattle.std.proofs.lemmas.List.FromFn.{map-range_with_len_more}
use Rattle.std.proofs.lemmas.List.Recursion.{max_push}
use Rattle.stab_convergence.specs.Greatest.{greatest}
use Rattle.stab_tree.specs.Nodes.{parent_at}
use Rattle.stab_tree.proofs.ForCallers.{child_is_node}
use Rattle.stab_treecore.specs.Faults.{is_parent}
use Rattle.stab_treecore.specs.Network.{Network}
use Rattle.stab_treecore.specs.NodeLaws.{capacity_into}
use Rattle.stab_treecore.specs.TreeLaw.{TreeLaw}
use Rattle.stab_treecore.proofs.ForCallers.{larger_bounds}
use Rattle.rignolda_verdict.specs.Costs.{capacity_to, greatest_below, missing_of}

-- the greatest of the first places and of one more
pub one_more : (f : ℕ → ℕ) (count : ℕ)
    → greatest (map f (range_with_len 0 (count + 1))) ≡ max (greatest (map f (range_with_len 0 count))) (f count)
one_more f count =
    ap greatest (map-range_with_len_more f 0 count count (let same : 0 + count ≡ count = omega arith in same))
    ∙ max_push greatest (λ x. x) refl (λ x xs. refl) (map f (range_with_len 0 count)) (f count)

-- each of the first places is at most their greatest
at_most : (f : ℕ → ℕ) (count i : ℕ) → i < count → f i ≤ greatest (map f (range_with_len 0 count))
at_most f zero i is = absurd (omega (arith, is))
at_most f (suc n) i is =
    let so_many : n + 1 ≡ suc n = omega arith in
    let first : ℕ = greatest (map f (range_with_len 0 n)) in
    let joined : f i ≤ max first (f n) =
    elim (cases_lt i n) [
      | inl less ↦ let among = at_most f n i less in let more = le-max_left first (f n) in omega (arith, among, more)
      | inr more ↦
          let last : i ≡ n = omega (arith, is, more) in
          subst (λ j. f j ≤ max first (f n)) (sym last) (le-max_right first (f n))
    ] in
    subst (λ m. f i ≤ greatest (map f (range_with_len 0 m))) so_many (subst (λ m. f i ≤ m) (sym (one_more f n)) joined)

-- the link to a child is no wider than the widest
pub no_wider : (net : Network) (w child : ℕ) → parent_at net.tree.parents child ≡ Some w → capacity_into net child ≤ greatest_below net w
no_wider net w child is_child =
    let node = child_is_node net.tree.parents child w is_child in
    let is_its_parent : is_parent net.tree.parents w child ≡ true = ap (λ o. option_map_or (λ parent. parent == w) o false) is_child ∙ eq-eqb w w refl in
    let same : capacity_to net w child ≡ capacity_into net child = rw is_its_parent refl in
    subst (λ capacity. capacity ≤ greatest_below net w) same (at_most (capacity_to net w) (length net.tree.parents) child node)

-- a law by the link to one child is one by the widest link
pub law_by_widest : (to_child widest held capacity into : ℕ) {garbage published received : List ℕ} → to_child ≤ widest → capacity ≡ into
    → TreeLaw (to_child + held + capacity) (2 * to_child + 1 + (2 * capacity + 1)) garbage published received
    → TreeLaw (widest + held + into) (missing_of widest + missing_of into) garbage published received
law_by_widest to_child widest held capacity into {garbage} {published} {received} more same law =
    larger_bounds (to_child + held + capacity) (widest + held + into) (2 * to_child + 1 + (2 * capacity + 1)) (missing_of widest + missing_of into)
    garbage published received (omega (arith, more, same)) (omega (arith, more, same)) law

pub own_law_by_widest : (to_child widest : ℕ) {garbage published received : List ℕ} → to_child ≤ widest
    → TreeLaw to_child (2 * to_child + 1) garbage published received → TreeLaw widest (missing_of widest) garbage published received
own_law_by_widest to_child widest {garbage} {published} {received} more law =
    larger_bounds to_child widest (2 * to_child + 1) (missing_of widest) garbage published received more (omega (arith, more)) law
