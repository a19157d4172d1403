-- Whether a list among those to come is at no inner node.
use Rattle.std.proofs.Common.{◌≡◌, ◌<◌, ◌+◌, ◌∷◌, ℕ, List, true, false, not, nat_lt, ◌&&◌, ◌||◌, length, get_or, drop, Option, refl, ap, sym, ◌∙◌}
use Rattle.std.proofs.lemmas.List.{drop_more}
use Rattle.stab_tree.specs.NodeOpenings.{is_inner, is_misplaced}

module _ (parents : List (Option ℕ)) (lists : List (List ℕ)) (place : ℕ) (list : List ℕ) (here : place < length lists)
    (read : list ≡ get_or lists place list) where
  -- the next list is misplaced, or one after it
  next : is_misplaced parents place (drop place lists)
      ≡ ((nat_lt 0 (length list) && not (is_inner parents place)) || is_misplaced parents (place + 1) (drop (place + 1) lists))
  next = ap (is_misplaced parents place) (drop_more lists place list here ∙ ap (λ x. x ∷ drop (place + 1) lists) (sym read))

  pub misplaced_here : (nat_lt 0 (length list) && not (is_inner parents place)) ≡ true → is_misplaced parents place (drop place lists) ≡ true
  misplaced_here is = next ∙ rw is refl

  pub placed_here : (nat_lt 0 (length list) && not (is_inner parents place)) ≡ false
      → is_misplaced parents (place + 1) (drop (place + 1) lists) ≡ is_misplaced parents place (drop place lists)
  placed_here is_not = sym (next ∙ rw is_not refl)
