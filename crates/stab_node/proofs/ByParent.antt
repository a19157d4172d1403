-- For callers of scattering and gathering: what is one per link, beside the nodes that the links lead
-- from, and back.
pub use Rattle.stab_node.proofs.Scattered.{next_parent}
use Rattle.std.proofs.Common.{◌≡◌, ◌==◌, ◌<◌, ℕ, suc, Bool, true, false, if◌then◌else◌, List, [], ◌∷◌, length, map, get_or, Option, Some, None, All, refl, ap, sym, ◌∙◌, eq-eqb, arith}
use Rattle.std.proofs.lemmas.List.{length-map}
use Rattle.std.proofs.lemmas.List.Elements.{All-cons, All-head, All-nil, All-tail}
use Rattle.std.proofs.lemmas.List.FromFn.{get_or-map-range_with_len, length-map-range_with_len}
use Rattle.std.specs.List.{range_with_len}
use mathlib.Core.List.{map-map}
use Rattle.stab_tree.specs.Links.{links_from, links_of}
use Rattle.stab_tree.specs.Nodes.{parent_at}
use Rattle.stab_node.specs.Scattering.{by_parent, child_counts, to_children}

-- ---- what belongs to the links from a node to its children

-- a map of a choice is the choice of the maps
map_chosen : {A B : Type 0} (f : A → B) (b : Bool) (xs ys : List A) → map f (if b then xs else ys) ≡ (if b then map f xs else map f ys)
map_chosen f true xs ys = refl
map_chosen f false xs ys = refl

pub map-to_children : {A B : Type 0} (f : A → B) (node : ℕ) (parents : List (Option ℕ)) (xs : List A)
    → map f (to_children node parents xs) ≡ to_children node parents (map f xs)
map-to_children f node [] xs = refl
map-to_children f node (None ∷ parents) xs = map-to_children f node parents xs
map-to_children f node (Some parent ∷ parents) [] = refl
map-to_children f node (Some parent ∷ parents) (x ∷ xs) =
    let rest = map-to_children f node parents xs in
    map_chosen f (parent == node) (x ∷ to_children node parents xs) (to_children node parents xs)
    ∙ ap (λ ys. if parent == node then f x ∷ ys else ys) rest

-- what holds of each of a longer and a shorter list holds of each of the one that is chosen
all_chosen : {A : Type 0} (P : A → Type 0) (b : Bool) (x : A) (xs : List A) → P x → All P xs → All P (if b then x ∷ xs else xs)
all_chosen P true x xs first rest = All-cons P x xs first rest
all_chosen P false x xs first rest = rest

-- what holds of each holds of each that a node gets by parent
pub all_to_children : {A : Type 0} (P : A → Type 0) (node : ℕ) (parents : List (Option ℕ)) (xs : List A) → All P xs
    → All P (to_children node parents xs)
all_to_children P node [] xs all = All-nil P
all_to_children P node (None ∷ parents) xs all = all_to_children P node parents xs all
all_to_children P node (Some parent ∷ parents) [] all = all
all_to_children P node (Some parent ∷ parents) (x ∷ xs) all =
    all_chosen P (parent == node) x (to_children node parents xs) (All-head P x xs all)
    (all_to_children P node parents xs (All-tail P x xs all))

-- two choices of a list with one more entry are as long where the lists are
longer_alike : {A B : Type 0} (b : Bool) (x : A) (y : B) (xs : List A) (ys : List B) → length xs ≡ length ys
    → length (if b then x ∷ xs else xs) ≡ length (if b then y ∷ ys else ys)
longer_alike true x y xs ys same = ap (λ n. suc n) same
longer_alike false x y xs ys same = same

-- how much belongs to the links to the children of a node depends on how much there is alone
pub as_many_to_children : {A B : Type 0} (node : ℕ) (parents : List (Option ℕ)) (xs : List A) (ys : List B) → length xs ≡ length ys
    → length (to_children node parents xs) ≡ length (to_children node parents ys)
as_many_to_children node [] xs ys same = refl
as_many_to_children node (None ∷ parents) xs ys same = as_many_to_children node parents xs ys same
as_many_to_children node (Some q ∷ parents) [] [] same = refl
as_many_to_children node (Some q ∷ parents) [] (y ∷ ys) same = absurd (omega arith)
as_many_to_children node (Some q ∷ parents) (x ∷ xs) [] same = absurd (omega arith)
as_many_to_children node (Some q ∷ parents) (x ∷ xs) (y ∷ ys) same =
    let rest = as_many_to_children node parents xs ys (omega arith) in
    longer_alike (q == node) x y (to_children node parents xs) (to_children node parents ys) rest

-- two choices that are alike: what they may begin with, and what comes after it
same_first : {A : Type 0} (b : Bool) (x y : A) (xs ys : List A) → b ≡ true → (if b then x ∷ xs else xs) ≡ (if b then y ∷ ys else ys) → x ≡ y
same_first true x y xs ys begins same = cc
same_first false x y xs ys begins same = cc

same_rest : {A : Type 0} (b : Bool) (x y : A) (xs ys : List A) → (if b then x ∷ xs else xs) ≡ (if b then y ∷ ys else ys) → xs ≡ ys
same_rest true x y xs ys same = cc
same_rest false x y xs ys same = same

-- lists with one entry for each link that are scattered alike to the children of each node are one list
pub scattered_alike : {A : Type 0} (nodes w : ℕ) (parents : List (Option ℕ)) (xs ys : List A)
    → ((child parent : ℕ) → parent_at parents child ≡ Some parent → parent < nodes)
    → length xs ≡ length (links_from w parents) → length ys ≡ length (links_from w parents)
    → ((node : ℕ) → node < nodes → to_children node parents xs ≡ to_children node parents ys)
    → xs ≡ ys
scattered_alike nodes w [] [] [] known first second alike = refl
scattered_alike nodes w [] [] (y ∷ ys) known first second alike = absurd (omega arith)
scattered_alike nodes w [] (x ∷ xs) ys known first second alike = absurd (omega arith)
scattered_alike nodes w (None ∷ parents) xs ys known first second alike =
    scattered_alike nodes (suc w) parents xs ys (λ child parent is_child. known (suc child) parent is_child) first second alike
scattered_alike nodes w (Some q ∷ parents) [] ys known first second alike = absurd (omega arith)
scattered_alike nodes w (Some q ∷ parents) (x ∷ xs) [] known first second alike = absurd (omega arith)
scattered_alike nodes w (Some q ∷ parents) (x ∷ xs) (y ∷ ys) known first second alike =
    let begins : x ≡ y =
    same_first (q == q) x y (to_children q parents xs) (to_children q parents ys) (eq-eqb q q refl) (alike q (known 0 q refl)) in
    let goes_on : xs ≡ ys =
    scattered_alike nodes (suc w) parents xs ys (λ child parent is_child. known (suc child) parent is_child) (omega arith) (omega arith)
    (λ node is_node. same_rest (q == node) x y (to_children node parents xs) (to_children node parents ys) (alike node is_node)) in
    cc

-- ---- by parent

-- each node has an entry by parent, though there may be nothing in it
pub length-by_parent : {A : Type 0} (parents : List (Option ℕ)) (xs : List A) → length (by_parent parents xs) ≡ length parents
length-by_parent parents xs = length-map-range_with_len (λ node. to_children node parents xs) 0 (length parents)

-- beside each node as scattered by parent is what belongs to the links to its children
pub by_parent_at : {A : Type 0} (parents : List (Option ℕ)) (xs : List A) (node : ℕ) → node < length parents
    → get_or (by_parent parents xs) node [] ≡ to_children node parents xs
by_parent_at parents xs node within = get_or-map-range_with_len (λ k. to_children k parents xs) 0 (length parents) node node [] within (omega arith)

-- two functions that agree on each element give one list
pub same_maps : {A B : Type 0} (f g : A → B) (xs : List A) → ((x : A) → f x ≡ g x) → map f xs ≡ map g xs
same_maps f g [] same = refl
same_maps f g (x ∷ xs) same = let first = same x in let rest = same_maps f g xs same in cc

-- to scatter and then to map is to map and then to scatter
pub map-by_parent : {A B : Type 0} (f : A → B) (parents : List (Option ℕ)) (xs : List A)
    → map (λ row. map f row) (by_parent parents xs) ≡ by_parent parents (map f xs)
map-by_parent f parents xs =
    map-map (λ row. map f row) (λ node. to_children node parents xs) (range_with_len 0 (length parents))
    ∙ same_maps (λ node. map f (to_children node parents xs)) (λ node. to_children node parents (map f xs)) (range_with_len 0 (length parents))
    (λ node. map-to_children f node parents xs)

-- what is one per link, scattered, gives each node one for each of its children
pub counts_by_parent : {A : Type 0} (parents : List (Option ℕ)) (xs : List A) → length xs ≡ length (links_of parents)
    → map (λ row. length row) (by_parent parents xs) ≡ child_counts parents
counts_by_parent parents xs counted =
    map-map (λ row. length row) (λ node. to_children node parents xs) (range_with_len 0 (length parents))
    ∙ (same_maps (λ node. length (to_children node parents xs)) (λ node. length (to_children node parents (links_of parents)))
    (range_with_len 0 (length parents)) (λ node. as_many_to_children node parents xs (links_of parents) counted)
    ∙ sym (map-map (λ row. length row) (λ node. to_children node parents (links_of parents)) (range_with_len 0 (length parents))))

-- lists with one entry for each link that are scattered alike by parent are one list
pub same_by_parent : {A : Type 0} (parents : List (Option ℕ)) (xs ys : List A)
    → ((child parent : ℕ) → parent_at parents child ≡ Some parent → parent < length parents)
    → length xs ≡ length (links_of parents) → length ys ≡ length (links_of parents) → by_parent parents xs ≡ by_parent parents ys → xs ≡ ys
same_by_parent parents xs ys known first second same =
    scattered_alike (length parents) 0 parents xs ys known first second
    (λ node within.
    sym (by_parent_at parents xs node within) ∙ (ap (λ rows. get_or rows node []) same ∙ by_parent_at parents ys node within))

-- rows that are read alike are as long
counts_of_alike : {A B C : Type 0} (f : A → C) (g : B → C) (xss : List (List A)) (yss : List (List B))
    → map (λ row. map f row) xss ≡ map (λ row. map g row) yss → map (λ row. length row) xss ≡ map (λ row. length row) yss
counts_of_alike f g xss yss alike =
    sym (same_maps (λ row. length (map f row)) (λ row. length row) xss (λ row. length-map row f))
    ∙ (sym (map-map (λ row. length row) (λ row. map f row) xss)
    ∙ (ap (λ rows. map (λ row. length row) rows) alike
    ∙ (map-map (λ row. length row) (λ row. map g row) yss ∙ same_maps (λ row. length (map g row)) (λ row. length row) yss (λ row. length-map row g))))

module _ {A B C : Type 0} (f : A → C) (g : B → C) (parents : List (Option ℕ)) (xs : List B) (counted : length xs ≡ length (links_of parents)) where
  -- rows that are read as what was scattered by parent can be gathered
  pub rows_can_be_gathered : (rows : List (List A)) → map (λ row. map f row) rows ≡ map (λ row. map g row) (by_parent parents xs)
      → map (λ row. length row) rows ≡ child_counts parents
  rows_can_be_gathered rows alike = counts_of_alike f g rows (by_parent parents xs) alike ∙ counts_by_parent parents xs counted

  -- and what is gathered from them is read, link by link, as what was scattered
  pub rows_gathered_alike : ((child parent : ℕ) → parent_at parents child ≡ Some parent → parent < length parents)
      → (rows : List (List A)) (ys : List A) → map (λ row. map f row) rows ≡ map (λ row. map g row) (by_parent parents xs)
      → length ys ≡ length (links_of parents) → by_parent parents ys ≡ rows → map f ys ≡ map g xs
  rows_gathered_alike known rows ys alike gathered same =
      same_by_parent parents (map f ys) (map g xs) known (length-map ys f ∙ gathered) (length-map xs g ∙ counted)
      (sym (map-by_parent f parents ys) ∙ (ap (λ all. map (λ row. map f row) all) same ∙ (alike ∙ map-by_parent g parents xs)))
