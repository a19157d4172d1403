-- Depths in a tree.
use Rattle.std.proofs.Common.{◌≡◌, ℕ, suc, ◌+◌, ◌<◌, ◌↔◌, List, length, Option, Some, is_none, unwrap_or, refl, sym, ap, ◌∙◌, add-one}
use Rattle.std.specs.List.{count_by}
use Rattle.stab_tree.specs.Depth.{EndsAfter, HasDepths}
use Rattle.stab_tree.specs.IsTree.{IsRooted}
use Rattle.stab_tree.specs.Nodes.{parent_at, root_of}
use Rattle.stab_tree.specs.Steps.{ancestor, depth_at, depth_of}
use Rattle.stab_tree.proofs.Roots.{count-one}
use Rattle.stab_tree.proofs.Steps.{ancestor-suc, steps_end, steps_found}
use Rattle.stab_tree.proofs.Walks.{walk_short}

-- a node of a tree has the depth of its walk to the root
pub depth_found : (ps : List (Option ℕ)) → IsRooted ps → (w k : ℕ) → w < length ps → ancestor ps k w ≡ Some (root_of ps) → (depth_at ps w ≡ Some k) × (k < length ps)
depth_found ps rooted w k within leads =
    let few = walk_short ps k w (root_of ps) rooted.known_parents within leads rooted.root_has_none in
    (steps_found ps (length ps) k w (root_of ps) leads rooted.root_has_none few, few)

pub record DepthIs (ps : List (Option ℕ)) (w k : ℕ) : Type 0 where
  pub at : depth_at ps w ≡ Some k
  pub is : depth_of ps w ≡ k
  pub few : k < length ps
  pub steps : ancestor ps k w ≡ Some (root_of ps)

-- each node of a tree has a depth: the number of its steps to the root
pub depth_exists : (ps : List (Option ℕ)) → IsRooted ps → (w : ℕ) → w < length ps → DepthIs ps w (depth_of ps w)
unfolding depth_of
depth_exists ps rooted w within =
    let walk = rooted.reaches_root w within in
    let found = depth_found ps rooted w walk.0 within walk.1 in
    let same : depth_of ps w ≡ walk.0 = ap (λ o. unwrap_or o 0) found.0 in
    record { at = found.0 ∙ ap Some (sym same); is = refl; few = rw same found.1; steps = rw same walk.1 }

-- a depth that was found is the depth
pub stored_depth : (ps : List (Option ℕ)) → IsRooted ps → (w k : ℕ) → w < length ps → depth_at ps w ≡ Some k → DepthIs ps w k
unfolding depth_of
stored_depth ps rooted w k within stored =
    let h = depth_exists ps rooted w within in
    let same : depth_of ps w ≡ k = ap (λ o. unwrap_or o 0) stored in
    record { at = stored; is = same; few = rw same at h.few; steps = rw same at h.steps }

-- one node of a tree has no parent
pub one_root : (ps : List (Option ℕ)) → IsRooted ps → count_by is_none ps ≡ 1
one_root ps rooted = count-one ps rooted.root_is_node rooted.one_root

-- a walk to the root gives the depth
depth_by_walk : (ps : List (Option ℕ)) → IsRooted ps → (w k : ℕ) → w < length ps → ancestor ps k w ≡ Some (root_of ps) → depth_of ps w ≡ k
unfolding depth_of
depth_by_walk ps rooted w k within leads = ap (λ o. unwrap_or o 0) (depth_found ps rooted w k within leads).0

-- a child is one deeper than its parent
child_deeper : (ps : List (Option ℕ)) → IsRooted ps → (w p : ℕ) → w < length ps → parent_at ps w ≡ Some p → depth_of ps w ≡ depth_of ps p + 1
child_deeper ps rooted w p within e =
    let above = depth_exists ps rooted p (rooted.known_parents w p e) in
    rw add-one (depth_by_walk ps rooted w (suc (depth_of ps p)) within (ancestor-suc ps (depth_of ps p) w p e ∙ above.steps))

pub tree_depths : (ps : List (Option ℕ)) → IsRooted ps → HasDepths ps
tree_depths ps rooted = record {
  root_depth = depth_by_walk ps rooted (root_of ps) 0 rooted.root_is_node refl;
  child_depth = child_deeper ps rooted;
  steps = λ w within. (depth_exists ps rooted w within).steps;
  below = λ w within. (depth_exists ps rooted w within).few;
}

-- a depth is the number of steps to a node without a parent
pub depth_means : (ps : List (Option ℕ)) → ((w p : ℕ) → parent_at ps w ≡ Some p → p < length ps) → (w k : ℕ) → w < length ps → (depth_at ps w ≡ Some k) ↔ (EndsAfter ps w k)
depth_means ps known w k within =
    (λ deep. steps_end ps (length ps) w k deep, λ ends. steps_found ps (length ps) k w ends.0 ends.1 ends.2 (walk_short ps k w ends.0 known within ends.1 ends.2))
