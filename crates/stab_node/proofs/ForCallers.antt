-- For callers of the workers of a tree: what is one per link, beside the nodes, and back.
pub use Rattle.stab_tree.proofs.ForCallers.{holds_by_child, length-by_child}
pub use Rattle.stab_node.proofs.Worked.{at_error}
use Rattle.std.proofs.Common.{◌≡◌, ◌==◌, ◌<◌, ℕ, zero, suc, Bool, true, false, if◌then◌else◌, List, [], ◌∷◌, length, map, get_or, drop, is_some, Option, Some, None, option_map, All, refl, ap, sym, ◌∙◌, subst, eq-eqb, arith}
use Rattle.std.proofs.lemmas.List.{length-map}
use Rattle.std.proofs.lemmas.List.Elements.{All-head, All-tail}
use Rattle.std.proofs.lemmas.Option.{none-some, same_Some}
use mathlib.Core.List.{map-map}
use Rattle.stab_tree.specs.Links.{links_from, links_of}
use Rattle.stab_tree.specs.Nodes.{parent_at}
use Rattle.stab_tree.specs.ByChild.{by_child}
use Rattle.stab_tree.proofs.ForCallers.{linked_nodes, map-by_child, not_of_nothing}
use Rattle.stab_node.proofs.ByParent.{by_parent_at, same_maps}
use Rattle.stab_node.specs.Scattering.{by_parent, to_children}

-- ---- by parent

-- what may begin with an element, where it does; and what comes after it
first_of_chosen : {A : Type 0} (P : A → Type 0) (b : Bool) (x : A) (xs : List A) → b ≡ true → All P (if b then x ∷ xs else xs) → P x
first_of_chosen P true x xs begins all = All-head P x xs all
first_of_chosen P false x xs begins all = cc

rest_of_chosen : {A : Type 0} (P : A → Type 0) (b : Bool) (x : A) (xs : List A) → All P (if b then x ∷ xs else xs) → All P xs
rest_of_chosen P true x xs all = All-tail P x xs all
rest_of_chosen P false x xs all = all

-- what holds of all that belongs to the links from a parent holds of what belongs to the link into
-- its child
pub holds_at_child : {A : Type 0} (P : A → Type 0) (parents : List (Option ℕ)) (xs : List A) (child parent : ℕ) (x : A)
    → All P (to_children parent parents xs) → parent_at parents child ≡ Some parent → get_or (by_child parents xs) child None ≡ Some x → P x
holds_at_child P [] xs child parent x all is_child is = absurd (none-some parent is_child)
holds_at_child P (None ∷ parents) xs zero parent x all is_child is = absurd (none-some parent is_child)
holds_at_child P (None ∷ parents) xs (suc child) parent x all is_child is = holds_at_child P parents xs child parent x all is_child is
holds_at_child P (Some q ∷ parents) [] child parent x all is_child is =
    not_of_nothing (P x) (Some q ∷ parents) child x is
holds_at_child P (Some q ∷ parents) (y ∷ ys) zero parent x all is_child is =
    let begins : (q == parent) ≡ true = eq-eqb q parent (same_Some q parent is_child) in
    subst P (same_Some y x is) (first_of_chosen P (q == parent) y (to_children parent parents ys) begins all)
holds_at_child P (Some q ∷ parents) (y ∷ ys) (suc child) parent x all is_child is =
    holds_at_child P parents ys child parent x (rest_of_chosen P (q == parent) y (to_children parent parents ys) all) is_child is

-- what holds of all that the row of each parent has holds of what belongs to the link into its
-- child
pub holds_of_child : {A : Type 0} (P : ℕ → A → Type 0) (parents : List (Option ℕ)) (xs : List A) (rows : List (List A)) → by_parent parents xs ≡ rows
    → ((node : ℕ) → node < length parents → All (P node) (get_or rows node []))
    → (child parent : ℕ) (x : A) → parent_at parents child ≡ Some parent → parent < length parents
    → get_or (by_child parents xs) child None ≡ Some x → P parent x
holds_of_child P parents xs rows scattered all child parent x is_child known is =
    let row : get_or rows parent [] ≡ to_children parent parents xs =
    ap (λ rows. get_or rows parent []) (sym scattered) ∙ by_parent_at parents xs parent known in
    holds_at_child (P parent) parents xs child parent x (subst (All (P parent)) row (all parent known)) is_child is

-- ---- by child

-- lists with one entry for each link that are scattered alike by child are one list
pub same_by_child : {A : Type 0} (w : ℕ) (parents : List (Option ℕ)) (xs ys : List A) → length xs ≡ length (links_from w parents)
    → length ys ≡ length (links_from w parents) → by_child parents xs ≡ by_child parents ys → xs ≡ ys
same_by_child w [] [] [] first second same = refl
same_by_child w [] (x ∷ xs) ys first second same = absurd (omega arith)
same_by_child w [] [] (y ∷ ys) first second same = absurd (omega arith)
same_by_child w (None ∷ parents) xs ys first second same = same_by_child (suc w) parents xs ys first second (ap (λ rows. drop 1 rows) same)
same_by_child w (Some p ∷ parents) [] ys first second same = absurd (omega arith)
same_by_child w (Some p ∷ parents) (x ∷ xs) [] first second same = absurd (omega arith)
same_by_child w (Some p ∷ parents) (x ∷ xs) (y ∷ ys) first second same =
    let begins : Some x ≡ Some y = ap (λ rows. get_or rows 0 None) same in
    let goes_on : xs ≡ ys = same_by_child (suc w) parents xs ys (omega arith) (omega arith) (ap (λ rows. drop 1 rows) same) in
    let first_same : x ≡ y = same_Some x y begins in
    cc

-- ---- what the workers leave

-- what is read of an entry is there where the entry is
some_mapped : {A B : Type 0} (f : A → B) (x : Option A) → is_some (option_map f x) ≡ is_some x
some_mapped f None = refl
some_mapped f (Some x) = refl

-- columns that are read alike have something at the same places
some_of_alike : {A B C : Type 0} (f : A → C) (g : B → C) (xs : List (Option A)) (ys : List (Option B))
    → map (option_map f) xs ≡ map (option_map g) ys → map is_some xs ≡ map is_some ys
some_of_alike f g xs ys alike =
    sym (same_maps (λ x. is_some (option_map f x)) is_some xs (some_mapped f))
    ∙ (sym (map-map is_some (option_map f) xs)
    ∙ (ap (λ column. map is_some column) alike
    ∙ (map-map is_some (option_map g) ys ∙ same_maps (λ y. is_some (option_map g y)) is_some ys (some_mapped g))))

module _ {A B C : Type 0} (f : A → C) (g : B → C) (parents : List (Option ℕ)) (xs : List B) (counted : length xs ≡ length (links_of parents)) where
  -- a column that is read as what was scattered by child can be gathered
  pub column_can_be_gathered : (column : List (Option A)) → map (option_map f) column ≡ map (option_map g) (by_child parents xs)
      → map is_some column ≡ map is_some parents
  column_can_be_gathered column alike = some_of_alike f g column (by_child parents xs) alike ∙ linked_nodes parents xs 0 counted

  -- and what is gathered from it is read, link by link, as what was scattered
  pub column_gathered_alike : (column : List (Option A)) (ys : List A) → map (option_map f) column ≡ map (option_map g) (by_child parents xs)
      → length ys ≡ length (links_of parents) → by_child parents ys ≡ column → map f ys ≡ map g xs
  column_gathered_alike column ys alike gathered same =
      same_by_child 0 parents (map f ys) (map g xs) (length-map ys f ∙ gathered) (length-map xs g ∙ counted)
      (sym (map-by_child f parents ys) ∙ (ap (λ all. map (option_map f) all) same ∙ (alike ∙ map-by_child g parents xs)))
