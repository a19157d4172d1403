-- A walk of parent steps to a node without a parent meets no node twice, so it has fewer steps than
-- there are nodes.
use Rattle.std.proofs.Common.{◌≡◌, ℕ, zero, suc, ◌<◌, true, false, eqb, List, [], ◌∷◌, length, Option, Some, None, refl, sym, ap, ◌∙◌, inl, inr, ⊎_elim, arith}
use Rattle.std.proofs.lemmas.Bool.{eqb-true, ne_eqb, or_cases}
use Rattle.std.proofs.lemmas.Map.Keys.{IsDistinct-cons}
use Rattle.std.proofs.lemmas.Map.Steps.{length-le_from_distinct_below}
use Rattle.std.specs.Option.{option_map_or}
use Rattle.std.specs.List.{AllByRecursion, list_any, IsDistinct}
use Rattle.stab_tree.specs.Nodes.{parent_at}
use Rattle.stab_tree.specs.Steps.{ancestor}
use Rattle.stab_tree.proofs.Steps.{option_cases, ancestor-suc, ancestor-none, steps_once}

-- the nodes from w on over k parent steps
path : List (Option ℕ) → ℕ → ℕ → List ℕ
path ps zero w = w ∷ []
path ps (suc k) w = w ∷ option_map_or (path ps k) (parent_at ps w) []

path-suc : (ps : List (Option ℕ)) (k w p : ℕ) → parent_at ps w ≡ Some p → path ps (suc k) w ≡ w ∷ path ps k p
unfolding path
path-suc ps k w p e = rw e refl

-- where there are k steps, the path has k nodes more than its first
length-path : (ps : List (Option ℕ)) (k w r : ℕ) → ancestor ps k w ≡ Some r → length (path ps k w) ≡ suc k
unfolding path
length-path ps zero w r leads = refl
length-path ps (suc k) w r leads =
    elim (option_cases (parent_at ps w)) [
      | inl e ↦ (let no = ancestor-none ps k w e in cc)
      | inr (p, e) ↦ (let on = ancestor-suc ps k w p e in rw e (ap suc (length-path ps k p r (sym on ∙ leads))))
    ]

-- a node that takes more steps to a node without a parent than a path has is not on it
off_path : (ps : List (Option ℕ)) (k j p w r : ℕ) → ancestor ps k p ≡ Some r → ancestor ps j w ≡ Some r → parent_at ps r ≡ None → k < j → AllByRecursion (λ y. eqb w y ≡ false) (path ps k p)
unfolding path
off_path ps zero j p w r leads more ends few =
    (ne_eqb w p (λ same. let e : ancestor ps j p ≡ Some r = rw same at more in let no = steps_once ps 0 j p r r leads ends e ends in omega arith), tt)
off_path ps (suc k) j p w r leads more ends few =
    elim (option_cases (parent_at ps p)) [
      | inl e ↦ (let no = ancestor-none ps k p e in cc)
      | inr (q, e) ↦ (let on = ancestor-suc ps k p q e in
          rw e (ne_eqb w p (λ same. let h : ancestor ps j p ≡ Some r = rw same at more in let no = steps_once ps (suc k) j p r r leads ends h ends in omega arith), off_path ps k j q w r (sym on ∙ leads) more ends (omega arith)))
    ]

-- no node occurs twice on a path to a node without a parent
path_apart : (ps : List (Option ℕ)) (k w r : ℕ) → ancestor ps k w ≡ Some r → parent_at ps r ≡ None → IsDistinct eqb (path ps k w)
unfolding path IsDistinct
path_apart ps zero w r leads ends = IsDistinct-cons eqb w [] tt tt
path_apart ps (suc k) w r leads ends =
    elim (option_cases (parent_at ps w)) [
      | inl e ↦ (let no = ancestor-none ps k w e in cc)
      | inr (p, e) ↦ (let on = ancestor-suc ps k w p e in
          rw e (IsDistinct-cons eqb w (path ps k p) (off_path ps k (suc k) p w r (sym on ∙ leads) leads ends (omega arith)) (path_apart ps k p r (sym on ∙ leads) ends)))
    ]

-- each node on a path is one of the nodes
path_inside : (ps : List (Option ℕ)) (k w r q : ℕ) → ((v p : ℕ) → parent_at ps v ≡ Some p → p < length ps) → w < length ps → ancestor ps k w ≡ Some r → list_any (eqb q) (path ps k w) ≡ true → q < length ps
unfolding path
path_inside ps zero w r q known within leads on = ⊎_elim (λ e. let same = eqb-true q w e in omega arith) (λ e. cc) (or_cases (eqb q w) false on)
path_inside ps (suc k) w r q known within leads on =
    elim (option_cases (parent_at ps w)) [
      | inl e ↦ (let no = ancestor-none ps k w e in cc)
      | inr (p, e) ↦ (let next = ancestor-suc ps k w p e in let on_rest : list_any (eqb q) (w ∷ path ps k p) ≡ true = rw e at on in
          ⊎_elim (λ e. let same = eqb-true q w e in omega arith) (λ h. path_inside ps k p r q known (known w p e) (sym next ∙ leads) h) (or_cases (eqb q w) (list_any (eqb q) (path ps k p)) on_rest))
    ]

-- a walk to a node without a parent has fewer steps than there are nodes
pub walk_short : (ps : List (Option ℕ)) (k w r : ℕ) → ((v p : ℕ) → parent_at ps v ≡ Some p → p < length ps) → w < length ps → ancestor ps k w ≡ Some r → parent_at ps r ≡ None → k < length ps
walk_short ps k w r known within leads ends =
    let few = length-le_from_distinct_below (path ps k w) (length ps) (path_apart ps k w r leads ends) (λ q on. path_inside ps k w r q known within leads on) in
    omega (arith, length-path ps k w r leads)
