-- Parent steps that end at a node without a parent.
use Rattle.std.proofs.Common.{◌≡◌, ℕ, zero, suc, ◌+◌, ◌<◌, List, [], ◌∷◌, length, Option, Some, None, IsSome, option_map, ◌⊎◌, inl, inr, refl, sym, ap, ◌∙◌, arith}
use Rattle.stab_tree.specs.Nodes.{parent_at}
use Rattle.stab_tree.specs.Steps.{ancestor, steps_below}

-- there is a value or there is none
pub option_cases : {X : Type 0} → (o : Option X) → (o ≡ None) ⊎ ((x : X) × (o ≡ Some x))
option_cases None = inl refl
option_cases (Some x) = inr (x, refl)

-- the value that is there
pub some_value : {X : Type 0} → (o : Option X) → IsSome o → (x : X) × (o ≡ Some x)
some_value None some = cc
some_value (Some x) some = (x, refl)

-- a node that has a parent is one of the nodes
pub child_is_node : (ps : List (Option ℕ)) (w p : ℕ) → parent_at ps w ≡ Some p → w < length ps
child_is_node [] w p e = cc
child_is_node (o ∷ ps) zero p e = omega arith
child_is_node (o ∷ ps) (suc w) p e = omega (arith, child_is_node ps w p e)

-- a step from a node with a parent goes on from there
pub ancestor-suc : (ps : List (Option ℕ)) (k w p : ℕ) → parent_at ps w ≡ Some p → ancestor ps (suc k) w ≡ ancestor ps k p
ancestor-suc ps k w p e = rw e refl

-- there is no step from a node without a parent
pub ancestor-none : (ps : List (Option ℕ)) (k w : ℕ) → parent_at ps w ≡ None → ancestor ps (suc k) w ≡ None
ancestor-none ps k w e = rw e refl

-- a node without a parent takes no step
steps-root : (ps : List (Option ℕ)) (m w : ℕ) → parent_at ps w ≡ None → steps_below ps (suc m) w ≡ Some 0
steps-root ps m w e = rw e refl

-- the steps of a node with a parent are one more than the parent takes
pub steps-child : (ps : List (Option ℕ)) (m w p : ℕ) → parent_at ps w ≡ Some p → steps_below ps (suc m) w ≡ option_map suc (steps_below ps m p)
steps-child ps m w p e = rw e refl

-- the steps that are found lead to a node without a parent
pub steps_end : (ps : List (Option ℕ)) (m w k : ℕ) → steps_below ps m w ≡ Some k → (r : ℕ) × (ancestor ps k w ≡ Some r) × (parent_at ps r ≡ None)
steps_end ps zero w k found = cc
steps_end ps (suc m) w k found =
    elim (option_cases (parent_at ps w)) [
      | inl e ↦ (let none : k ≡ 0 = let s = steps-root ps m w e in cc in (w, rw none refl, e))
      | inr (p, e) ↦ (let one_more : option_map suc (steps_below ps m p) ≡ Some k = sym (steps-child ps m w p e) ∙ found in elim (option_cases (steps_below ps m p)) [
        | inl none ↦ (let no : None ≡ Some k = rw none at one_more in cc)
        | inr (j, some) ↦ (let more : k ≡ suc j = (let fits : Some (suc j) ≡ Some k = rw some at one_more in cc) in let h = steps_end ps m p j some in (h.0, rw (more, ancestor-suc ps j w p e) h.1, h.2))
      ])
    ]

-- steps that lead to a node without a parent are found
pub steps_found : (ps : List (Option ℕ)) (m k w r : ℕ) → ancestor ps k w ≡ Some r → parent_at ps r ≡ None → k < m → steps_below ps m w ≡ Some k
steps_found ps zero k w r leads ends few = absurd (omega arith)
steps_found ps (suc m) zero w r leads ends few = steps-root ps m w (let e : w ≡ r = cc in rw e ends)
steps_found ps (suc m) (suc k) w r leads ends few =
    elim (option_cases (parent_at ps w)) [
      | inl e ↦ (let no = ancestor-none ps k w e in cc)
      | inr (p, e) ↦ (let on = ancestor-suc ps k w p e in let h = steps_found ps m k p r (sym on ∙ leads) ends (omega arith) in steps-child ps m w p e ∙ ap (option_map suc) h)
    ]

-- only one number of steps leads to a node without a parent
pub steps_once : (ps : List (Option ℕ)) (j k w r s : ℕ) → ancestor ps j w ≡ Some r → parent_at ps r ≡ None → ancestor ps k w ≡ Some s → parent_at ps s ≡ None → j ≡ k
steps_once ps j k w r s leads ends other_leads other_ends =
    let one = steps_found ps (suc (j + k)) j w r leads ends (omega arith) in
    let other = steps_found ps (suc (j + k)) k w s other_leads other_ends (omega arith) in
    cc
