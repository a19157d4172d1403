-- What a node and those beneath it obey, where the law of the node is known: the law of each node
-- beneath it that nothing hits, and what spares a node spares the nodes above it.
use Rattle.std.proofs.Common.{◌≡◌, ℕ, zero, suc, ◌+◌, ◌*◌, ◌<◌, List, [], ◌∷◌, ◌++◌, length, Option, Some, None, refl, ap, sym, ◌∙◌, subst, inl, inr, append_assoc, arith}
use Rattle.std.specs.Option.{option_map_or}
use Rattle.std.proofs.lemmas.Option.{none-some, same_Some}
use Rattle.stab_core.specs.LinkLaw.{LinkLaw}
use Rattle.stab_tree.specs.Nodes.{Nodes, parent_at}
use Rattle.stab_tree.specs.Steps.{ancestor}
use Rattle.stab_tree.proofs.Steps.{ancestor-none, ancestor-suc}
use Rattle.stab_treecore.specs.Paths.{sum_above, lists_above}
use Rattle.stab_treecore.specs.TreeLaw.{TreeLaw}
use Rattle.stab_treecore.specs.WholeTree.{WholeTree}
use Rattle.stab_treecore.proofs.ForChanges.{larger_bounds, law_below, law_past_opening}
use Rattle.stab_treecore.specs.Changes.{Change, Act, Publish, Strike, Restart, changes_replay}
use Rattle.stab_treecore.specs.Hits.{Hits, Spare}
use Rattle.stab_treecore.specs.Since.{IsState, backlog, capacity_at, gained, queued_at}
use Rattle.stab_treecore.proofs.NodesSince.{link_since, since_spared}
use Rattle.stab_treecore.proofs.Kept.{none_or_some, OnPath, Since, path_up}
use Rattle.stab_treecore.proofs.Obeying.{ObeysSince}

-- what hits the parent hits the child
hits_below : (parents : List (Option ℕ)) (child parent : ℕ) → parent_at parents child ≡ Some parent → (change : Change) → Hits parents parent change
    → Hits parents child change
hits_below parents child parent is_child (Act e) hit = hit
hits_below parents child parent is_child (Publish items) hit = hit
hits_below parents child parent is_child (Strike other start) (k, leads) = (suc k, ancestor-suc parents k child parent is_child ∙ leads)
hits_below parents child parent is_child (Restart other list) (k, leads) = (suc k, ancestor-suc parents k child parent is_child ∙ leads)

-- what spares a child spares its parent
pub spare_up : (parents : List (Option ℕ)) (child parent : ℕ) → parent_at parents child ≡ Some parent → (changes : List Change)
    → Spare parents child changes → Spare parents parent changes
spare_up parents child parent is_child [] spare = tt
spare_up parents child parent is_child (change ∷ changes) spare =
    (λ hit. spare.0 (hits_below parents child parent is_child change hit), spare_up parents child parent is_child changes spare.1)

-- from the law of one node to that of each node beneath it
module _ (obey : ObeysSince LinkLaw) (tree : Nodes) (m : WholeTree) (is : IsState tree m) (after : List Change) (w strays missing : ℕ)
    (garbage published : List ℕ)
    (at_top : w < length m.parents → Spare m.parents w after → TreeLaw strays missing garbage published (gained m (changes_replay m after) w)) where
  abbrev t : WholeTree
  t = changes_replay m after

  abbrev strays_of : ℕ → ℕ
  strays_of u = capacity_at m u + length (backlog m u)

  abbrev missing_of : ℕ → ℕ
  missing_of u = 2 * capacity_at m u + 1

  abbrev garbage_of : ℕ → List ℕ
  garbage_of u = queued_at m u ++ backlog m u

  abbrev Beneath : ℕ → ℕ → Type 0
  Beneath steps node =
      TreeLaw (sum_above m.parents strays_of steps node + strays) (sum_above m.parents missing_of steps node + missing)
      (lists_above m.parents garbage_of steps node ++ garbage) published (gained m t node)

  step_down : (steps child parent : ℕ) → child < length m.parents → parent_at m.parents child ≡ Some parent → Spare m.parents child after
      → Beneath steps parent → Beneath (suc steps) child
  step_down steps child parent is_node has_parent spare at_parent =
      let since : Since m t (OnPath m child) (OnPath m child) = since_spared tree m after child is is_node spare in
      let (offered, acked, begins, law) =
      link_since tree m is t (OnPath m child) (OnPath m child) (path_up m child) since LinkLaw obey child parent (0, refl) has_parent in
      let capacity : ℕ = capacity_at m child in
      let more : ℕ = sum_above m.parents strays_of steps parent + strays in
      let lost : ℕ = sum_above m.parents missing_of steps parent + missing in
      let rest : List ℕ = lists_above m.parents garbage_of steps parent ++ garbage in
      let old : List ℕ = backlog m child in
      let strays_are : sum_above m.parents strays_of (suc steps) child ≡ capacity + length old + sum_above m.parents strays_of steps parent =
      ap (λ o. strays_of child + option_map_or (sum_above m.parents strays_of steps) o 0) has_parent in
      let missing_are : sum_above m.parents missing_of (suc steps) child ≡ 2 * capacity + 1 + sum_above m.parents missing_of steps parent =
      ap (λ o. missing_of child + option_map_or (sum_above m.parents missing_of steps) o 0) has_parent in
      let garbage_are : queued_at m child ++ (old ++ rest) ≡ lists_above m.parents garbage_of (suc steps) child ++ garbage =
      sym (append_assoc (queued_at m child) old rest)
      ∙ (sym (append_assoc (garbage_of child) (lists_above m.parents garbage_of steps parent) garbage)
      ∙ ap (λ o. (garbage_of child ++ option_map_or (lists_above m.parents garbage_of steps) o []) ++ garbage) (sym has_parent)) in
      larger_bounds (more + length old + capacity) (sum_above m.parents strays_of (suc steps) child + strays) (lost + (2 * capacity + 1))
      (sum_above m.parents missing_of (suc steps) child + missing) (lists_above m.parents garbage_of (suc steps) child ++ garbage)
      published (gained m t child) (omega arith) (omega arith)
      (subst (λ xs. TreeLaw (more + length old + capacity) (lost + (2 * capacity + 1)) xs published (gained m t child)) garbage_are
      (law_below capacity (more + length old) acked (queued_at m child) (old ++ rest) published (old ++ gained m t parent) offered
      (gained m t child) begins lost (law_past_opening more old rest published (gained m t parent) lost at_parent) law))

  pub law_beneath : (steps node : ℕ) → node < length m.parents → ancestor m.parents steps node ≡ Some w → Spare m.parents node after
      → Beneath steps node
  law_beneath zero node is_node leads spare =
      let here : node ≡ w = same_Some node w leads in
      let top_node : w < length m.parents = subst (λ v. v < length m.parents) here is_node in
      let law = at_top top_node (subst (λ v. Spare m.parents v after) here spare) in
      subst (λ v. TreeLaw (0 + strays) (0 + missing) ([] ++ garbage) published (gained m t v)) (sym here)
      (larger_bounds strays (0 + strays) missing (0 + missing) garbage published (gained m t w) (omega arith) (omega arith) law)
  law_beneath (suc steps) node is_node leads spare =
      elim (none_or_some (parent_at m.parents node)) [
        | inl none ↦
            let never : None ≡ Some w = sym (ancestor-none m.parents steps node none) ∙ leads in
            absurd (none-some w never)
        | inr (parent, has_parent) ↦
            step_down steps node parent is_node has_parent spare
            (law_beneath steps parent (parent_node parent has_parent) (sym (ancestor-suc m.parents steps node parent has_parent) ∙ leads)
            (spare_up m.parents node parent has_parent after spare))
      ]
    where
      parent_node : (parent : ℕ) → parent_at m.parents node ≡ Some parent → parent < length m.parents
      parent_node parent has_parent =
          subst (λ ps. parent_at ps node ≡ Some parent → parent < length ps) (sym is.parents) (is.is_tree.known_parents node parent) has_parent
