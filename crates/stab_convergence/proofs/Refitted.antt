-- A network whose links begin elsewhere: each keeps its parameters, and its start is by its child.
use Rattle.std.proofs.Common.{◌≡◌, ℕ, zero, suc, ◌+◌, List, [], ◌∷◌, map, length, get_or, option_map, All, Option, Some, None, refl, sym, ◌∙◌, ap, arith}
use Rattle.std.proofs.lemmas.List.Elements.{All-head, All-tail, All-cons, All-nil}
use Rattle.stab_frames.specs.Parameters.{Parameters, AreLawful}
use Rattle.stab_core.specs.declared.start.Start.{Start}
use Rattle.stab_core.specs.LinkSetup.{CanBegin, LinkSetup, setup}
use Rattle.stab_tree.specs.ByChild.{by_child}

-- where there is nothing for any link, there is nothing for the link into a node
nothing_into : (parents : List (Option ℕ)) (node : ℕ) → get_or (by_child {A = LinkSetup} parents []) node None ≡ None
nothing_into [] node = refl
nothing_into (None ∷ parents) zero = refl
nothing_into (None ∷ parents) (suc node) = nothing_into parents node
nothing_into (Some parent ∷ parents) zero = refl
nothing_into (Some parent ∷ parents) (suc node) = nothing_into parents node

module _ (start : ℕ → Parameters → Start) where
  -- the links into the children among the nodes from place w on
  abbrev pub refitted : ℕ → List (Option ℕ) → List LinkSetup → List LinkSetup
  refitted w [] links = links
  refitted w (None ∷ parents) links = refitted (suc w) parents links
  refitted w (Some p ∷ parents) [] = []
  refitted w (Some p ∷ parents) (link ∷ links) = setup link.params (start w link.params) ∷ refitted (suc w) parents links

  pub same_params : (w : ℕ) (parents : List (Option ℕ)) (links : List LinkSetup)
      → map (λ l. l.params) (refitted w parents links) ≡ map (λ l. l.params) links
  same_params w [] links = refl
  same_params w (None ∷ parents) links = same_params (suc w) parents links
  same_params w (Some p ∷ parents) [] = refl
  same_params w (Some p ∷ parents) (link ∷ links) = ap (λ rest. link.params ∷ rest) (same_params (suc w) parents links)

  pub as_many : (w : ℕ) (parents : List (Option ℕ)) (links : List LinkSetup) → length (refitted w parents links) ≡ length links
  as_many w [] links = refl
  as_many w (None ∷ parents) links = as_many (suc w) parents links
  as_many w (Some p ∷ parents) [] = refl
  as_many w (Some p ∷ parents) (link ∷ links) = ap suc (as_many (suc w) parents links)

  pub all_begin : ((w : ℕ) (p : Parameters) → AreLawful p → CanBegin (setup p (start w p)))
      → (w : ℕ) (parents : List (Option ℕ)) (links : List LinkSetup) → All CanBegin links → All CanBegin (refitted w parents links)
  all_begin each w [] links can = can
  all_begin each w (None ∷ parents) links can = all_begin each (suc w) parents links can
  all_begin each w (Some p ∷ parents) [] can = All-nil CanBegin
  all_begin each w (Some p ∷ parents) (link ∷ links) can =
      All-cons CanBegin (setup link.params (start w link.params)) (refitted (suc w) parents links)
      (each w link.params (All-head CanBegin link links can).0) (all_begin each (suc w) parents links (All-tail CanBegin link links can))

  -- the link into a node
  abbrev pub refit : ℕ → LinkSetup → LinkSetup
  refit w link = setup link.params (start w link.params)

  pub refitted_into : (w : ℕ) (parents : List (Option ℕ)) (links : List LinkSetup) (node : ℕ)
      → get_or (by_child parents (refitted w parents links)) node None ≡ option_map (refit (w + node)) (get_or (by_child parents links) node None)
  refitted_into w [] links node = refl
  refitted_into w (None ∷ parents) links zero = refl
  refitted_into w (None ∷ parents) links (suc node) =
      let place : suc w + node ≡ w + suc node = omega arith in
      refitted_into (suc w) parents links node ∙ ap (λ n. option_map (refit n) (get_or (by_child parents links) node None)) place
  refitted_into w (Some p ∷ parents) [] zero = refl
  refitted_into w (Some p ∷ parents) [] (suc node) =
      nothing_into parents node ∙ sym (ap (option_map (refit (w + suc node))) (nothing_into parents node))
  refitted_into w (Some p ∷ parents) (link ∷ links) zero =
      let place : w ≡ w + zero = omega arith in ap (λ n. Some (refit n link)) place
  refitted_into w (Some p ∷ parents) (link ∷ links) (suc node) =
      let place : suc w + node ≡ w + suc node = omega arith in
      refitted_into (suc w) parents links node ∙ ap (λ n. option_map (refit n) (get_or (by_child parents links) node None)) place

-- to look up and then to map
pub mapped_into : {A B : Type 0} (f : A → B) (parents : List (Option ℕ)) (xs : List A) (node : ℕ)
    → get_or (by_child parents (map f xs)) node None ≡ option_map f (get_or (by_child parents xs) node None)
mapped_into f [] xs node = refl
mapped_into f (None ∷ parents) xs zero = refl
mapped_into f (None ∷ parents) xs (suc node) = mapped_into f parents xs node
mapped_into f (Some p ∷ parents) [] zero = refl
mapped_into f (Some p ∷ parents) [] (suc node) = mapped_into f parents [] node
mapped_into f (Some p ∷ parents) (x ∷ xs) zero = refl
mapped_into f (Some p ∷ parents) (x ∷ xs) (suc node) = mapped_into f parents xs node
