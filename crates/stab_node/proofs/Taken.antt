-- The workers so far, and what the others are still to take.
use Rattle.std.proofs.Common.{◌≡◌, ◌≤◌, ◌<◌, ◌+◌, ℕ, List, [], ◌∷◌, ◌++◌, length, get_or, drop, map, MatchOption, Option, Some, None, ap, sym, ◌∙◌, append_assoc, arith}
use Rattle.std.proofs.lemmas.List.{append-nil, map-append, map-id, length-append, length-map, nil_from_length}
use Rattle.std.proofs.lemmas.List.FromFn.{map-range_with_len_more}
use Rattle.std.specs.List.{range_with_len}
use Rattle.stab_tree.specs.ByChild.{by_child}
use Rattle.stab_node.proofs.ByParent.{next_parent}

module _ {A : Type 0} (parents : List (Option ℕ)) (i : ℕ) (in_list : i < length parents) where
  -- nothing belongs to a link into the root
  pub root_takes_nothing : (left : List A) → get_or parents i None ≡ None
      → by_child (drop i parents) left ≡ None ∷ by_child (drop (i + 1) parents) left
  root_takes_nothing left is_root = ap (λ rest. by_child rest left) (next_parent parents i None in_list is_root)

  -- a child takes the first of what is left
  pub child_takes_the_first : (parent : ℕ) (taken : Option A) (old left : List A)
      → get_or parents i None ≡ Some parent → MatchOption taken ((old ≡ []) × (left ≡ [])) (λ x. old ≡ x ∷ left)
      → by_child (drop i parents) old ≡ taken ∷ by_child (drop (i + 1) parents) left
  child_takes_the_first parent None old left is_child takes =
      ap (λ rest. by_child (drop i parents) rest) takes.0
      ∙ (ap (λ rest. by_child rest []) (next_parent parents i (Some parent) in_list is_child)
      ∙ ap (λ rest. None ∷ by_child (drop (i + 1) parents) rest) (sym takes.1))
  child_takes_the_first parent (Some x) old left is_child takes =
      ap (λ rest. by_child (drop i parents) rest) takes
      ∙ ap (λ rest. by_child rest (x ∷ left)) (next_parent parents i (Some parent) in_list is_child)

-- The workers so far took these from the front of the list, and the others are still to take what
-- is left.
pub record TakenSoFar {S X : Type 0} (part : S → X) (workers : List S) (left all : List X) : Type 0 where
  pub so_far : map part workers ++ left ≡ all

-- a worker takes the first of what is left
pub one_more_taken : {S X : Type 0} (part : S → X) (workers : List S) (worker : S) (old left all : List X) → TakenSoFar part workers old all
    → old ≡ part worker ∷ left → TakenSoFar part (workers ++ worker ∷ []) left all
one_more_taken part workers worker old left all taken takes = record {
  so_far =
      ap (λ front. front ++ left) (map-append part workers (worker ∷ []))
      ∙ (append_assoc (map part workers) (part worker ∷ []) left
      ∙ (ap (λ rest. map part workers ++ rest) (sym takes) ∙ taken.so_far));
}

-- there is more to take until there is a worker for each
pub more_to_take : {S X : Type 0} (part : S → X) (workers : List S) (left all : List X) → TakenSoFar part workers left all
    → length workers < length all → 0 < length left
more_to_take part workers left all taken more =
    omega (arith, ap length taken.so_far, length-append (map part workers) left, length-map workers part)

-- where there is a worker for each, everything is taken
pub all_taken : {S X : Type 0} (part : S → X) (workers : List S) (left all : List X) → TakenSoFar part workers left all
    → length all ≤ length workers → map part workers ≡ all
all_taken part workers left all taken past =
    let none : left ≡ [] =
    nil_from_length left (omega (arith, ap length taken.so_far, length-append (map part workers) left, length-map workers part)) in
    sym (append-nil (map part workers)) ∙ (ap (λ rest. map part workers ++ rest) (sym none) ∙ taken.so_far)

-- one more number from 0 on
pub one_more_number : (n : ℕ) → range_with_len 0 (n + 1) ≡ range_with_len 0 n ++ n ∷ []
one_more_number n =
    sym (map-id (range_with_len 0 (n + 1)))
    ∙ (map-range_with_len_more (λ k. k) 0 n n (omega arith) ∙ ap (λ front. front ++ n ∷ []) (map-id (range_with_len 0 n)))
