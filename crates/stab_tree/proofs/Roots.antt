-- The nodes without a parent, counted and found.
use Rattle.std.proofs.Common.{◌≡◌, ℕ, zero, suc, ◌+◌, ◌<◌, ◌≤◌, List, [], ◌∷◌, length, Option, Some, None, is_none, not, unwrap_or, cond, inl, inr, one-add, refl, arith}
use Rattle.std.specs.List.{count_by, position}
use Rattle.std.proofs.lemmas.Bool.{cases_lt, lt-ltb, le-ltb}
use Rattle.std.proofs.lemmas.List.Sums.{prefix_len-le-length, sum_by-cons}
use Rattle.stab_tree.specs.Nodes.{parent_at, root_of}

-- the count at one node more
pub count-cons : (o : Option ℕ) (ps : List (Option ℕ)) → count_by is_none (o ∷ ps) ≡ count_by is_none (o ∷ []) + count_by is_none ps
count-cons None ps = omega (arith, sum_by-cons (λ (o : Option ℕ). cond (is_none o) 1 0) None ps)
count-cons (Some p) ps = omega (arith, sum_by-cons (λ (o : Option ℕ). cond (is_none o) 1 0) (Some p) ps)

-- where no node is without a parent, none counts
pub count-zero : (ps : List (Option ℕ)) → length ps ≤ root_of ps → count_by is_none ps ≡ 0
count-zero [] h = refl
count-zero (None ∷ ps) h = absurd (omega arith)
count-zero (Some p ∷ ps) h = omega (arith, count-cons (Some p) ps, count-zero ps (omega arith))

-- where one node is without a parent, one counts at least
count-some : (ps : List (Option ℕ)) → root_of ps < length ps → 1 ≤ count_by is_none ps
count-some [] h = absurd (omega arith)
count-some (None ∷ ps) h = omega (arith, count-cons None ps)
count-some (Some p ∷ ps) h = omega (arith, count-cons (Some p) ps, count-some ps (omega arith))

-- the first node without a parent has none
pub root-none : (ps : List (Option ℕ)) → root_of ps < length ps → parent_at ps (root_of ps) ≡ None
root-none [] h = refl
root-none (None ∷ ps) h = refl
root-none (Some p ∷ ps) h = rw one-add (root-none ps (omega arith))

-- where none counts, each node has a parent
each_has : (ps : List (Option ℕ)) (w : ℕ) → count_by is_none ps ≡ 0 → w < length ps → parent_at ps w ≡ None → ⊥
each_has [] w zero_counted within e = omega arith
each_has (None ∷ ps) w zero_counted within e = omega (arith, count-cons None ps)
each_has (Some p ∷ ps) zero zero_counted within e = cc
each_has (Some p ∷ ps) (suc w) zero_counted within e = each_has ps w (omega (arith, count-cons (Some p) ps)) (omega arith) e

-- where one counts, each node without a parent is the root
pub root-alone : (ps : List (Option ℕ)) (w : ℕ) → count_by is_none ps ≡ 1 → w < length ps → parent_at ps w ≡ None → w ≡ root_of ps
root-alone [] w one within e = absurd (omega arith)
root-alone (None ∷ ps) zero one within e = refl
root-alone (None ∷ ps) (suc w) one within e = absurd (each_has ps w (omega (arith, count-cons None ps)) (omega arith) e)
root-alone (Some p ∷ ps) zero one within e = cc
root-alone (Some p ∷ ps) (suc w) one within e = omega (arith, root-alone ps w (omega (arith, count-cons (Some p) ps)) (omega arith) e)

-- the first root, and the number of nodes where there is none
pub root_or_number : (ps : List (Option ℕ)) → unwrap_or (position is_none ps) (length ps) ≡ root_of ps
root_or_number ps =
    elim (cases_lt (root_of ps) (length ps)) [
      | inl inside ↦ rw (lt-ltb _ _ inside) refl
      | inr past ↦ rw (le-ltb _ _ past) (omega (arith, prefix_len-le-length (λ o. not (is_none o)) ps))
    ]

-- where none counts, none is found
pub count-none_before : (ps : List (Option ℕ)) → count_by is_none ps ≡ 0 → length ps ≤ root_of ps
count-none_before ps none = elim (cases_lt (root_of ps) (length ps)) [ inl h ↦ absurd (omega (arith, count-some ps h)) | inr h ↦ h ]

-- where the first node without a parent is the only one, one counts
pub count-one : (ps : List (Option ℕ)) → root_of ps < length ps → ((w : ℕ) → w < length ps → parent_at ps w ≡ None → w ≡ root_of ps) → count_by is_none ps ≡ 1
count-one [] within alone = absurd (omega arith)
count-one (None ∷ ps) within alone =
    elim (cases_lt (root_of ps) (length ps)) [
      | inl h ↦ absurd (omega (arith, alone (suc (root_of ps)) (omega arith) (root-none ps h)))
      | inr h ↦ omega (arith, count-cons None ps, count-zero ps h)
    ]
count-one (Some p ∷ ps) within alone =
    omega (arith, count-cons (Some p) ps, count-one ps (omega arith) (λ w inside none. omega (arith, alone (suc w) (omega arith) none)))
