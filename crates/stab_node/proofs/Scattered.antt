-- What the nodes so far got of what there is one of per link, and what the others are still to get.
use Rattle.std.proofs.Common.{◌≡◌, ◌<◌, ◌≤◌, ◌+◌, ℕ, List, [], ◌∷◌, ◌++◌, length, get_or, set, drop, replicate, Option, Some, None, if◌then◌else◌, refl, ap, sym, ◌∙◌, append_assoc, arith, inl, inr}
use Rattle.std.proofs.lemmas.Bool.{cases_eq, eq-eqb, ne_eqb}
use Rattle.std.proofs.lemmas.List.{drop_more, drop_all, append-nil, length-replicate, length-set, get_or-replicate, get_or-set_same, get_or-set_other}
use Rattle.std.proofs.lemmas.List.FromFn.{fill_by_all}
use Rattle.stab_node.specs.Scattering.{by_parent, to_children}

-- what is left of the parents begins with that of the next node
pub next_parent : (parents : List (Option ℕ)) (i : ℕ) (parent : Option ℕ) → i < length parents → get_or parents i None ≡ parent
    → drop i parents ≡ parent ∷ drop (i + 1) parents
next_parent parents i parent in_list is = drop_more parents i None in_list ∙ ap (λ x. x ∷ drop (i + 1) parents) is

-- where there is nothing for any link, there is nothing for the links to the children of a node
nothing_to_children : {A : Type 0} (node : ℕ) (parents : List (Option ℕ)) → to_children {A = A} node parents [] ≡ []
nothing_to_children node [] = refl
nothing_to_children node (None ∷ parents) = nothing_to_children node parents
nothing_to_children node (Some parent ∷ parents) = refl

-- The rows so far, each with what the other nodes add to it from what is left.
pub record ByParentSoFar {A : Type 0} (parents : List (Option ℕ)) (xs : List A) (rows : List (List A)) (left : List A) (i : ℕ) : Type 0 where
  pub number : length rows ≡ length parents
  pub each : (node : ℕ) → node < length parents → get_or rows node [] ++ to_children node (drop i parents) left ≡ to_children node parents xs

-- before the first node the rows are empty
pub rows_empty : {A : Type 0} (parents : List (Option ℕ)) (xs : List A) → ByParentSoFar parents xs (replicate (length parents) []) xs 0
rows_empty parents xs = record {
  number = length-replicate (length parents) [];
  each = λ node within. ap (λ row. row ++ to_children node parents xs) (get_or-replicate (length parents) node [] [] within);
}

module _ {A : Type 0} (parents : List (Option ℕ)) (xs : List A) (rows : List (List A)) (i : ℕ) (in_list : i < length parents) where
  -- the root adds to no row
  pub root_adds_nothing : (left : List A) → ByParentSoFar parents xs rows left i → get_or parents i None ≡ None → ByParentSoFar parents xs rows left (i + 1)
  root_adds_nothing left so_far is_root = record {
    number = so_far.number;
    each = λ node within.
        ap (λ rest. get_or rows node [] ++ to_children node rest left) (sym (next_parent parents i None in_list is_root)) ∙ so_far.each node within;
  }

  -- where nothing is left, a child adds to no row
  pub none_left_to_add : (parent : ℕ) (old left : List A) → ByParentSoFar parents xs rows old i → get_or parents i None ≡ Some parent
      → old ≡ [] → left ≡ [] → ByParentSoFar parents xs rows left (i + 1)
  none_left_to_add parent old left so_far is_child old_none none = record {
    number = so_far.number;
    each = λ node within.
        ap (λ rest. get_or rows node [] ++ to_children node (drop (i + 1) parents) rest) none
        ∙ (ap (λ rest. get_or rows node [] ++ rest) (nothing_to_children node (drop (i + 1) parents) ∙ sym (nothing_to_children node (drop i parents)))
        ∙ (ap (λ rest. get_or rows node [] ++ to_children node (drop i parents) rest) (sym old_none) ∙ so_far.each node within));
  }

  -- what a child adds goes to the end of its parent's row, and to no other
  adds_to_row : (parent : ℕ) (x : A) (left : List A) (node : ℕ) → length rows ≡ length parents → node < length parents
      → get_or (set rows parent (get_or rows parent [] ++ x ∷ [])) node [] ++ to_children node (drop (i + 1) parents) left
      ≡ get_or rows node [] ++ to_children node (Some parent ∷ drop (i + 1) parents) (x ∷ left)
  adds_to_row parent x left node number within =
      let rest = to_children node (drop (i + 1) parents) left in
      elim (cases_eq node parent) [
        | inl same ↦
            (let longer : get_or (set rows parent (get_or rows parent [] ++ x ∷ [])) node [] ≡ get_or rows node [] ++ x ∷ [] =
            ap (λ k. get_or (set rows parent (get_or rows parent [] ++ x ∷ [])) k []) same
            ∙ (get_or-set_same rows parent (get_or rows parent [] ++ x ∷ []) [] (omega arith) ∙ ap (λ k. get_or rows k [] ++ x ∷ []) (sym same)) in
            ap (λ row. row ++ rest) longer
            ∙ (append_assoc (get_or rows node []) (x ∷ []) rest
            ∙ ap (λ b. get_or rows node [] ++ (if b then x ∷ rest else rest)) (sym (eq-eqb parent node (sym same)))))
        | inr apart ↦
            ap (λ row. row ++ rest) (get_or-set_other rows parent node (get_or rows parent [] ++ x ∷ []) [] apart)
            ∙ ap (λ b. get_or rows node [] ++ (if b then x ∷ rest else rest)) (sym (ne_eqb parent node (λ same. apart (sym same))))
      ]

  -- a child adds the first of what is left to its parent's row
  pub child_adds : (parent : ℕ) (x : A) (old left : List A) → ByParentSoFar parents xs rows old i → get_or parents i None ≡ Some parent
      → old ≡ x ∷ left → ByParentSoFar parents xs (set rows parent (get_or rows parent [] ++ x ∷ [])) left (i + 1)
  child_adds parent x old left so_far is_child takes = record {
    number = length-set rows parent (get_or rows parent [] ++ x ∷ []) ∙ so_far.number;
    each = λ node within.
        adds_to_row parent x left node so_far.number within
        ∙ (ap (λ rest. get_or rows node [] ++ to_children node rest (x ∷ left)) (sym (next_parent parents i (Some parent) in_list is_child))
        ∙ (ap (λ rest. get_or rows node [] ++ to_children node (drop i parents) rest) (sym takes) ∙ so_far.each node within));
  }

-- after the last node each row is whole
pub rows_whole : {A : Type 0} (parents : List (Option ℕ)) (xs : List A) (rows : List (List A)) (left : List A) (i : ℕ)
    → ByParentSoFar parents xs rows left i → length parents ≤ i → rows ≡ by_parent parents xs
rows_whole parents xs rows left i so_far past =
    fill_by_all (λ node. to_children node parents xs) rows (length parents) [] so_far.number
    (λ node within.
    sym (append-nil (get_or rows node []))
    ∙ (ap (λ rest. get_or rows node [] ++ to_children node rest left) (sym (drop_all i parents past)) ∙ so_far.each node within))
