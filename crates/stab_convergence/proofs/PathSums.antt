-- Sums along a path, the nodes on it, and the link on it at which the sharper bound is greatest.
use Rattle.std.proofs.Common.{◌≡◌, ℕ, zero, suc, ◌+◌, ◌*◌, ◌<◌, ◌≤◌, max, inl, inr, List, length, Option, Some, refl, sym, ◌∙◌, ap, arith}
use Rattle.std.specs.Option.{option_map_or}
use Rattle.std.proofs.Math.Nat.{max-eq_left, max-eq_right}
use Rattle.std.proofs.lemmas.Bool.{cases_lt}
use Rattle.std.proofs.lemmas.Option.{same_Some}
use Rattle.stab_tree.specs.IsTree.{IsRooted}
use Rattle.stab_tree.specs.Nodes.{parent_at}
use Rattle.stab_tree.specs.Steps.{ancestor, depth_of}
use Rattle.stab_tree.proofs.ForCallers.{child_is_deeper, holds_of_every_node}
use Rattle.stab_tree.proofs.Steps.{ancestor-none, ancestor-suc, option_cases}
use Rattle.stab_tree.proofs.Trees.{tree_depths}
use Rattle.stab_treecore.specs.Network.{Network}
use Rattle.stab_treecore.specs.NodeLaws.{capacity_into}
use Rattle.stab_treecore.specs.Paths.{path_sum, sum_above}
use Rattle.stab_treecore.specs.SharperLaw.{fewest_missing, missing_without_strays, peak_above}

-- where `steps` steps lead to a node, `more` further ones lead on from there
pub steps_on : (parents : List (Option ℕ)) (steps more node w : ℕ) → ancestor parents steps node ≡ Some w
    → ancestor parents (steps + more) node ≡ ancestor parents more w
steps_on parents zero more node w leads =
    let none : zero + more ≡ more = omega arith in
    ap (λ n. ancestor parents n node) none ∙ ap (λ (v : ℕ). ancestor parents more v) (same_Some node w leads)
steps_on parents (suc steps) more node w leads =
    let sum : suc steps + more ≡ suc (steps + more) = omega arith in
    elim (option_cases (parent_at parents node)) [
      | inl none ↦ (let no_step = ancestor-none parents steps node none in cc)
      | inr (above, has) ↦
          ap (λ n. ancestor parents n node) sum ∙ ancestor-suc parents (steps + more) node above has
          ∙ steps_on parents steps more above w (sym (ancestor-suc parents steps node above has) ∙ leads)
    ]

module _ (parents : List (Option ℕ)) (rooted : IsRooted parents) where
  -- each step leads to a node one less deep
  pub depth_steps : (steps node w : ℕ) → ancestor parents steps node ≡ Some w → depth_of parents node ≡ steps + depth_of parents w
  depth_steps zero node w leads =
      let none : zero + depth_of parents w ≡ depth_of parents w = omega arith in
      ap (depth_of parents) (same_Some node w leads) ∙ sym none
  depth_steps (suc steps) node w leads =
      elim (option_cases (parent_at parents node)) [
        | inl none ↦ (let no_step = ancestor-none parents steps node none in cc)
        | inr (above, has) ↦
            let deeper = child_is_deeper parents rooted node above has in
            let rest = depth_steps steps above w (sym (ancestor-suc parents steps node above has) ∙ leads) in
            omega (arith, deeper, rest)
      ]

  -- so a path has one node of each depth
  pub one_of_depth : (first second node v w : ℕ) → ancestor parents first node ≡ Some v → ancestor parents second node ≡ Some w
      → depth_of parents v ≡ depth_of parents w → v ≡ w
  one_of_depth first second node v w leads leads_too same =
      let steps : first ≡ second = omega (arith, depth_steps first node v leads, depth_steps second node w leads_too, same) in
      same_Some v w (sym leads ∙ ap (λ n. ancestor parents n node) steps ∙ leads_too)

  -- the sum on the path of a child is its own number and that of its parent's path
  pub sum_of_child : (number : ℕ → ℕ) (child parent : ℕ) → parent_at parents child ≡ Some parent
      → path_sum parents number child ≡ number child + path_sum parents number parent
  sum_of_child number child parent is_child =
      ap (λ depth. sum_above parents number depth child) (child_is_deeper parents rooted child parent is_child)
      ∙ ap (λ up. number child + option_map_or (sum_above parents number (depth_of parents parent)) up 0) is_child

  -- so it is no less than the sum of a node above
  pub sum_grows : (number : ℕ → ℕ) (steps node w : ℕ) → ancestor parents steps node ≡ Some w → path_sum parents number w ≤ path_sum parents number node
  sum_grows number zero node w leads =
      let same : path_sum parents number node ≡ path_sum parents number w = ap (path_sum parents number) (same_Some node w leads) in
      omega (arith, same)
  sum_grows number (suc steps) node w leads =
      elim (option_cases (parent_at parents node)) [
        | inl none ↦ (let no_step = ancestor-none parents steps node none in cc)
        | inr (above, has) ↦
            let rest = sum_grows number steps above w (sym (ancestor-suc parents steps node above has) ∙ leads) in
            omega (arith, sum_of_child number node above has, rest)
      ]

-- ---- where the bound is greatest

-- a link on the path of a node, at which the sharper bound of the node is its 2c + 1 and the c + 1
-- of each link above
pub record Greatest (net : Network) (node : ℕ) : Type 0 where
  pub steps : ℕ
  pub child : ℕ
  pub parent : ℕ
  pub leads : ancestor net.tree.parents steps node ≡ Some child
  pub is_child : parent_at net.tree.parents child ≡ Some parent
  pub most : fewest_missing net node ≡ missing_without_strays net parent + (2 * capacity_into net child + 1)

module _ (net : Network) (rooted : IsRooted net.tree.parents) where
  abbrev parents : List (Option ℕ)
  parents = net.tree.parents

  abbrev own : ℕ → ℕ → ℕ
  own child parent = missing_without_strays net parent + (2 * capacity_into net child + 1)

  bound_of_child : (child parent : ℕ) → parent_at parents child ≡ Some parent
      → fewest_missing net child ≡ max (fewest_missing net parent) (own child parent)
  bound_of_child child parent is_child =
      let depth : ℕ = depth_of parents parent in
      ap (λ d. peak_above parents (capacity_into net) d child) (child_is_deeper parents rooted child parent is_child)
      ∙ ap (λ up. max (option_map_or (peak_above parents (capacity_into net) depth) up 0)
      (option_map_or (sum_above parents (λ w. capacity_into net w + 1) depth) up 0 + (2 * capacity_into net child + 1))) is_child

  -- the root misses nothing
  none_at_root : (node : ℕ) → depth_of parents node ≡ 0 → fewest_missing net node ≡ 0
  none_at_root node shallow = ap (λ d. peak_above parents (capacity_into net) d node) shallow

  below : (child parent : ℕ) → parent_at parents child ≡ Some parent → (1 ≤ depth_of parents parent → Greatest net parent) → Greatest net child
  below child parent is_child above =
      let bound = bound_of_child child parent is_child in
      elim (cases_lt (own child parent) (fewest_missing net parent)) [
        | inl less ↦
            let deep : 1 ≤ depth_of parents parent =
            elim (cases_lt 0 (depth_of parents parent)) [
              | inl deep ↦ omega (arith, deep)
              | inr shallow ↦ absurd (omega (arith, none_at_root parent (omega (arith, shallow)), less))
            ] in
            let higher = above deep in
            let larger : max (fewest_missing net parent) (own child parent) ≡ fewest_missing net parent = max-eq_left (omega (arith, less)) in
            record {
              steps = suc higher.steps;
              child = higher.child;
              parent = higher.parent;
              leads = ancestor-suc parents higher.steps child parent is_child ∙ higher.leads;
              is_child = higher.is_child;
              most = bound ∙ larger ∙ higher.most;
            }
        | inr more ↦
            let larger : max (fewest_missing net parent) (own child parent) ≡ own child parent = max-eq_right (omega (arith, more)) in
            record { steps = 0; child = child; parent = parent; leads = refl; is_child = is_child; most = bound ∙ larger }
      ]

  pub greatest : (node : ℕ) → node < length parents → 1 ≤ depth_of parents node → Greatest net node
  greatest =
      holds_of_every_node parents rooted (λ node. 1 ≤ depth_of parents node → Greatest net node)
      (λ deep. absurd (omega (arith, deep, (tree_depths parents rooted).root_depth)))
      (λ child parent is_child above deep. below child parent is_child above)
