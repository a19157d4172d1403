-- Facts of trees for the crates above.
-- Induction from the root: what holds of the root and passes from parent to child holds of every
-- node, with or without its depth; a child is one deeper than its parent.
-- What there is one of per link, scattered by child; and openings that fit a tree.
pub use Rattle.stab_tree.proofs.Fitting.{AreOpenings, openings_fit}
pub use Rattle.stab_tree.proofs.Steps.{child_is_node}
use Rattle.std.specs.List.{AllZip}
use Rattle.std.proofs.Common.{◌≡◌, ℕ, zero, suc, ◌<◌, List, [], ◌∷◌, length, map, get_or, Option, Some, None, is_some, true, false, option_map, All, inl, inr, refl, ap, sym, subst, ◌∙◌, add-one, arith}
use Rattle.std.proofs.lemmas.List.Elements.{All-head, All-tail}
use Rattle.std.proofs.lemmas.Option.{none-some, same_Some}
use Rattle.stab_tree.specs.ByChild.{by_child}
use Rattle.stab_tree.specs.IsTree.{IsRooted}
use Rattle.stab_tree.specs.Nodes.{parent_at, root_of}
use Rattle.stab_tree.specs.Steps.{ancestor, depth_of}
use Rattle.stab_tree.specs.Links.{links_from}
use Rattle.stab_tree.proofs.Links.{length-links_from}
use Rattle.stab_tree.proofs.Steps.{child_is_node, option_cases, ancestor-suc, ancestor-none}
use Rattle.stab_tree.proofs.Trees.{tree_depths}

-- ---- links

-- the number of links is the same wherever the nodes are counted from
pub links_counted_anywhere : (parents : List (Option ℕ)) (v w : ℕ) → length (links_from v parents) ≡ length (links_from w parents)
links_counted_anywhere parents v w = omega (arith, length-links_from v parents, length-links_from w parents)

-- ---- induction from the root

-- where `steps` parent steps lead to a child, one more leads to its parent
pub one_step_further : (parents : List (Option ℕ)) (steps node child parent : ℕ) → ancestor parents steps node ≡ Some child
    → parent_at parents child ≡ Some parent → ancestor parents (suc steps) node ≡ Some parent
one_step_further parents zero node child parent leads is_child =
    let same : node ≡ child = cc in
    ancestor-suc parents 0 node parent (ap (parent_at parents) same ∙ is_child)
one_step_further parents (suc steps) node child parent leads is_child =
    elim (option_cases (parent_at parents node)) [
      | inl none ↦ (let no_step = ancestor-none parents steps node none in cc)
      | inr (above, has) ↦
          ancestor-suc parents (suc steps) node above has
          ∙ one_step_further parents steps above child parent (sym (ancestor-suc parents steps node above has) ∙ leads) is_child
    ]

-- what passes from each parent to its child passes down a path
passes_down : (parents : List (Option ℕ)) (P : ℕ → Type 0)
    → ((child parent : ℕ) → parent_at parents child ≡ Some parent → P parent → P child)
    → (steps node above : ℕ) → ancestor parents steps node ≡ Some above → P above → P node
passes_down parents P passes zero node above leads holds = let same : above ≡ node = cc in subst P same holds
passes_down parents P passes (suc steps) node above leads holds =
    elim (option_cases (parent_at parents node)) [
      | inl none ↦ (let no_step = ancestor-none parents steps node none in cc)
      | inr (parent, is_child) ↦
          passes node parent is_child
          (passes_down parents P passes steps parent above (sym (ancestor-suc parents steps node parent is_child) ∙ leads) holds)
    ]

module _ (parents : List (Option ℕ)) (rooted : IsRooted parents) where
  -- what holds of the root, and passes from each parent to its child, holds of every node
  pub holds_of_every_node : (P : ℕ → Type 0) → P (root_of parents)
      → ((child parent : ℕ) → parent_at parents child ≡ Some parent → P parent → P child)
      → (node : ℕ) → node < length parents → P node
  holds_of_every_node P at_root passes node within =
      let path = rooted.reaches_root node within in
      passes_down parents P passes path.0 node (root_of parents) path.1 at_root

  -- a child is one step deeper than its parent
  pub child_is_deeper : (child parent : ℕ) → parent_at parents child ≡ Some parent → depth_of parents child ≡ suc (depth_of parents parent)
  child_is_deeper child parent is_child =
      (tree_depths parents rooted).child_depth child parent (child_is_node parents child parent is_child) is_child ∙ add-one (depth_of parents parent)

  -- what holds of the root at depth 0, and passes from each parent to its child one step deeper,
  -- holds of every node at its depth
  pub holds_at_every_depth : (P : ℕ → ℕ → Type 0) → P 0 (root_of parents)
      → ((depth child parent : ℕ) → parent_at parents child ≡ Some parent → P depth parent → P (suc depth) child)
      → (node : ℕ) → node < length parents → P (depth_of parents node) node
  holds_at_every_depth P at_root passes =
      holds_of_every_node (λ node. P (depth_of parents node) node)
      (subst (λ depth. P depth (root_of parents)) (sym (tree_depths parents rooted).root_depth) at_root)
      (λ child parent is_child above.
      subst (λ depth. P depth child) (sym (child_is_deeper child parent is_child)) (passes (depth_of parents parent) child parent is_child above))

-- ---- what belongs to the link into each node

-- what holds of each holds of what belongs to the link into a node
pub holds_by_child : {A : Type 0} (P : A → Type 0) (parents : List (Option ℕ)) (xs : List A) (node : ℕ) (x : A) → All P xs
    → get_or (by_child parents xs) node None ≡ Some x → P x
holds_by_child P [] xs node x all is = absurd (none-some x is)
holds_by_child P (None ∷ parents) xs zero x all is = absurd (none-some x is)
holds_by_child P (None ∷ parents) xs (suc node) x all is = holds_by_child P parents xs node x all is
holds_by_child P (Some parent ∷ parents) [] zero x all is = absurd (none-some x is)
holds_by_child P (Some parent ∷ parents) [] (suc node) x all is = holds_by_child P parents [] node x all is
holds_by_child P (Some parent ∷ parents) (y ∷ ys) zero x all is = subst P (same_Some y x is) (All-head P y ys all)
holds_by_child P (Some parent ∷ parents) (y ∷ ys) (suc node) x all is = holds_by_child P parents ys node x (All-tail P y ys all) is

-- where there is nothing for any link, there is nothing for the link into a node
nothing_by_child : {A : Type 0} (parents : List (Option ℕ)) (node : ℕ) → get_or (by_child {A = A} parents []) node None ≡ None
nothing_by_child [] node = refl
nothing_by_child (None ∷ parents) zero = refl
nothing_by_child (None ∷ parents) (suc node) = nothing_by_child parents node
nothing_by_child (Some parent ∷ parents) zero = refl
nothing_by_child (Some parent ∷ parents) (suc node) = nothing_by_child parents node

-- so what belongs to the link into a node is no entry of an empty list
pub not_of_nothing : {A : Type 0} (P : Type 0) (parents : List (Option ℕ)) (node : ℕ) (x : A) → get_or (by_child parents []) node None ≡ Some x → P
not_of_nothing P parents node x is = absurd (none-some x (sym (nothing_by_child parents node) ∙ is))

-- there is no link into a node without a parent
pub no_link_into : {A : Type 0} (parents : List (Option ℕ)) (xs : List A) (node : ℕ) → parent_at parents node ≡ None
    → get_or (by_child parents xs) node None ≡ None
no_link_into [] xs node none = refl
no_link_into (None ∷ parents) xs zero none = refl
no_link_into (None ∷ parents) xs (suc node) none = no_link_into parents xs node none
no_link_into (Some q ∷ parents) xs zero none = absurd (none-some q (sym none))
no_link_into (Some q ∷ parents) [] (suc node) none = no_link_into parents [] node none
no_link_into (Some q ∷ parents) (x ∷ xs) (suc node) none = no_link_into parents xs node none

-- what holds of the entries of two lists, place by place, holds of the two that belong to the link
-- into a node
pub holds_by_child_of_both : {A B : Type 0} (R : A → B → Type 0) (parents : List (Option ℕ)) (xs : List A) (ys : List B) (node : ℕ) (x : A) (y : B)
    → AllZip R xs ys → get_or (by_child parents xs) node None ≡ Some x → get_or (by_child parents ys) node None ≡ Some y → R x y
holds_by_child_of_both R [] xs ys node x y all is is_too = absurd (none-some x is)
holds_by_child_of_both R (None ∷ parents) xs ys zero x y all is is_too = absurd (none-some x is)
holds_by_child_of_both R (None ∷ parents) xs ys (suc node) x y all is is_too = holds_by_child_of_both R parents xs ys node x y all is is_too
holds_by_child_of_both R (Some parent ∷ parents) [] ys node x y all is is_too =
    not_of_nothing (R x y) (Some parent ∷ parents) node x is
holds_by_child_of_both R (Some parent ∷ parents) (z ∷ zs) [] node x y all is is_too =
    not_of_nothing (R x y) (Some parent ∷ parents) node y is_too
holds_by_child_of_both R (Some parent ∷ parents) (z ∷ zs) (w ∷ ws) zero x y all is is_too =
    subst (λ b. R x b) (same_Some w y is_too) (subst (λ a. R a w) (same_Some z x is) all.0)
holds_by_child_of_both R (Some parent ∷ parents) (z ∷ zs) (w ∷ ws) (suc node) x y all is is_too =
    holds_by_child_of_both R parents zs ws node x y all.1 is is_too

-- where there is one entry for each link, there is one for the link into each node that has a
-- parent
pub one_by_child : {A : Type 0} (parents : List (Option ℕ)) (xs : List A) (w child parent : ℕ) → length xs ≡ length (links_from w parents)
    → parent_at parents child ≡ Some parent → (x : A) × (get_or (by_child parents xs) child None ≡ Some x)
one_by_child [] xs w child parent same is_child = absurd (none-some parent is_child)
one_by_child (None ∷ parents) xs w zero parent same is_child = absurd (none-some parent is_child)
one_by_child (None ∷ parents) xs w (suc child) parent same is_child = one_by_child parents xs (suc w) child parent same is_child
one_by_child (Some q ∷ parents) [] w child parent same is_child = absurd (omega arith)
one_by_child (Some q ∷ parents) (x ∷ xs) w zero parent same is_child = (x, refl)
one_by_child (Some q ∷ parents) (x ∷ xs) w (suc child) parent same is_child =
    one_by_child parents xs (suc w) child parent (omega arith) is_child

-- there is an entry, or none, beside each node
pub length-by_child : {A : Type 0} (parents : List (Option ℕ)) (xs : List A) → length (by_child parents xs) ≡ length parents
length-by_child [] xs = refl
length-by_child (None ∷ parents) xs = ap suc (length-by_child parents xs)
length-by_child (Some parent ∷ parents) [] = ap suc (length-by_child parents [])
length-by_child (Some parent ∷ parents) (x ∷ xs) = ap suc (length-by_child parents xs)

-- to scatter and then to map is to map and then to scatter
pub map-by_child : {A B : Type 0} (f : A → B) (parents : List (Option ℕ)) (xs : List A)
    → map (option_map f) (by_child parents xs) ≡ by_child parents (map f xs)
map-by_child f [] xs = refl
map-by_child f (None ∷ parents) xs = ap (λ rest. None ∷ rest) (map-by_child f parents xs)
map-by_child f (Some parent ∷ parents) [] = ap (λ rest. None ∷ rest) (map-by_child f parents [])
map-by_child f (Some parent ∷ parents) (x ∷ xs) = ap (λ rest. Some (f x) ∷ rest) (map-by_child f parents xs)

-- the nodes with a link are those with a parent
pub linked_nodes : {A : Type 0} (parents : List (Option ℕ)) (xs : List A) (w : ℕ) → length xs ≡ length (links_from w parents)
    → map is_some (by_child parents xs) ≡ map is_some parents
linked_nodes [] xs w same = refl
linked_nodes (None ∷ parents) xs w same = ap (λ bs. false ∷ bs) (linked_nodes parents xs (suc w) same)
linked_nodes (Some parent ∷ parents) [] w same = absurd (omega arith)
linked_nodes (Some parent ∷ parents) (x ∷ xs) w same = ap (λ bs. true ∷ bs) (linked_nodes parents xs (suc w) (omega arith))
