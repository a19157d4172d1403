-- Lists of which the entries belong together, one by one: links and what there is one of for each.
use Rattle.std.proofs.Common.{◌≡◌, ◌<◌, ◌+◌, ℕ, zero, suc, List, [], ◌∷◌, ◌++◌, length, map, take, drop, get_or, Some, None, Option, refl, sym, ap, ◌∙◌, subst, arith}
use Rattle.std.proofs.lemmas.List.{drop_more, map-append, map_more, take_more}
use Rattle.std.proofs.lemmas.Option.{none-some, same_Some}
use Rattle.std.specs.List.{AllZip}
use mathlib.Core.List.{map-map}
use Rattle.stab_node.specs.ByNode.{entry_into}

module _ {A B : Type 0} (R : A → B → Type 0) where
  -- one more of each
  pub paired_push : (xs : List A) (ys : List B) (x : A) (y : B) → AllZip R xs ys → R x y → AllZip R (xs ++ x ∷ []) (ys ++ y ∷ [])
  paired_push [] [] x y all last = (last, tt)
  paired_push [] (z ∷ zs) x y all last = absurd all
  paired_push (w ∷ ws) [] x y all last = absurd all
  paired_push (w ∷ ws) (z ∷ zs) x y all last = (all.0, paired_push ws zs x y all.1 last)

  -- the entries so far are paired, and so is one more
  pub one_more_paired : (xs : List A) (ys : List B) (place : ℕ) (x : A) (y : B) → place < length xs → x ≡ get_or xs place x
      → AllZip R (take place xs) ys → R x y → AllZip R (take (place + 1) xs) (ys ++ y ∷ [])
  one_more_paired xs ys place x y within read so_far next =
      subst (λ zs. AllZip R zs (ys ++ y ∷ [])) (sym (take_more xs place x within))
      (paired_push (take place xs) ys (get_or xs place x) y so_far (subst (λ z. R z y) read next))

  -- where there is an entry left, there is one that belongs to it
  pub more_paired : (xs : List A) (ys : List B) (place : ℕ) → place < length xs → AllZip R (drop place xs) ys → 0 < length ys
  more_paired [] ys place within all = absurd (omega (arith, within))
  more_paired (x ∷ xs) [] zero within all = absurd all
  more_paired (x ∷ xs) (y ∷ ys) zero within all = omega arith
  more_paired (x ∷ xs) ys (suc place) within all = more_paired xs ys place (omega (arith, within)) all

  -- and the first of these belongs to the next entry, and the others to the others
  pub next_paired : (xs : List A) (ys : List B) (place : ℕ) (x : A) (y : B) (old : List B) → place < length xs → x ≡ get_or xs place x
      → AllZip R (drop place xs) old → old ≡ y ∷ ys → R x y × AllZip R (drop (place + 1) xs) ys
  next_paired xs ys place x y old within read all first =
      let both : AllZip R (get_or xs place x ∷ drop (place + 1) xs) (y ∷ ys) =
      subst (λ zs. AllZip R zs (y ∷ ys)) (drop_more xs place x within) (subst (λ zs. AllZip R (drop place xs) zs) first all) in
      (subst (λ z. R z y) (sym read) both.0, both.1)

  -- there are as many
  pub as_many_paired : (xs : List A) (ys : List B) → AllZip R xs ys → length ys ≡ length xs
  as_many_paired [] [] all = refl
  as_many_paired [] (y ∷ ys) all = absurd all
  as_many_paired (x ∷ xs) [] all = absurd all
  as_many_paired (x ∷ xs) (y ∷ ys) all = ap (λ n. suc n) (as_many_paired xs ys all.1)

-- what holds of each entry and of what is read of the one beside it holds of others that are read
-- alike, in the same order
pub paired_read : {X A B C : Type 0} (R : X → A → Type 0) (f : B → A) (g : C → A) (xs : List X) (ys : List B) (zs : List C)
    → AllZip (λ x y. R x (f y)) xs ys → map g zs ≡ map f ys → AllZip (λ x z. R x (g z)) xs zs
paired_read R f g [] [] [] all same = tt
paired_read R f g [] [] (z ∷ zs) all same = absurd (omega (arith, ap length same))
paired_read R f g [] (y ∷ ys) zs all same = absurd all
paired_read R f g (x ∷ xs) [] zs all same = absurd all
paired_read R f g (x ∷ xs) (y ∷ ys) [] all same = absurd (omega (arith, ap length same))
paired_read R f g (x ∷ xs) (y ∷ ys) (z ∷ zs) all same =
    let first : g z ≡ f y = ap (λ ws. get_or ws 0 (f y)) same in
    (subst (R x) (sym first) all.0, paired_read R f g xs ys zs all.1 (ap (λ ws. drop 1 ws) same))

-- what is read of entries that are read alike is the same
pub read_further : {A B C N : Type 0} (h : A → N) (f : B → A) (g : C → A) (ys : List B) (zs : List C) → map g zs ≡ map f ys
    → map (λ z. h (g z)) zs ≡ map (λ y. h (f y)) ys
read_further h f g ys zs same = sym (map-map h g zs) ∙ (ap (λ ws. map h ws) same ∙ map-map h f ys)

-- what is read of an entry is there where the entry is
pub entry_mapped : {A B : Type 0} (f : A → B) (parents : List (Option ℕ)) (xs : List A) (node : ℕ) (x : A) → entry_into parents xs node ≡ Some x
    → entry_into parents (map f xs) node ≡ Some (f x)
entry_mapped f [] xs node x is = absurd (none-some x is)
entry_mapped f (None ∷ parents) xs zero x is = absurd (none-some x is)
entry_mapped f (None ∷ parents) xs (suc node) x is = entry_mapped f parents xs node x is
entry_mapped f (Some q ∷ parents) [] zero x is = absurd (none-some x is)
entry_mapped f (Some q ∷ parents) [] (suc node) x is = entry_mapped f parents [] node x is
entry_mapped f (Some q ∷ parents) (y ∷ ys) zero x is = ap (λ z. Some (f z)) (same_Some y x is)
entry_mapped f (Some q ∷ parents) (y ∷ ys) (suc node) x is = entry_mapped f parents ys node x is

-- two lists that are read alike are read alike at a node
pub same_entry : {A B N : Type 0} (f : A → N) (g : B → N) (parents : List (Option ℕ)) (xs : List A) (ys : List B) (node : ℕ) (x : A) (y : B)
    → map f xs ≡ map g ys → entry_into parents xs node ≡ Some x → entry_into parents ys node ≡ Some y → f x ≡ g y
same_entry f g parents xs ys node x y same at_x at_y =
    same_Some (f x) (g y)
    (sym (entry_mapped f parents xs node x at_x)
    ∙ (ap (λ zs. entry_into parents zs node) same ∙ entry_mapped g parents ys node y at_y))

-- what holds of each entry and of the one beside it holds of the entries into a node
pub paired_entry : {A B : Type 0} (R : A → B → Type 0) (parents : List (Option ℕ)) (xs : List A) (ys : List B) (node : ℕ) (x : A) (y : B) → AllZip R xs ys
    → entry_into parents xs node ≡ Some x → entry_into parents ys node ≡ Some y → R x y
paired_entry R [] xs ys node x y all at_x at_y = absurd (none-some x at_x)
paired_entry R (None ∷ parents) xs ys zero x y all at_x at_y = absurd (none-some x at_x)
paired_entry R (None ∷ parents) xs ys (suc node) x y all at_x at_y = paired_entry R parents xs ys node x y all at_x at_y
paired_entry R (Some q ∷ parents) [] ys zero x y all at_x at_y = absurd (none-some x at_x)
paired_entry R (Some q ∷ parents) [] [] (suc node) x y all at_x at_y = paired_entry R parents [] [] node x y tt at_x at_y
paired_entry R (Some q ∷ parents) [] (z ∷ ys) (suc node) x y all at_x at_y = absurd all
paired_entry R (Some q ∷ parents) (w ∷ xs) [] node x y all at_x at_y = absurd all
paired_entry R (Some q ∷ parents) (w ∷ xs) (z ∷ ys) zero x y all at_x at_y =
    subst (λ b. R x b) (same_Some z y at_y) (subst (λ a. R a z) (same_Some w x at_x) all.0)
paired_entry R (Some q ∷ parents) (w ∷ xs) (z ∷ ys) (suc node) x y all at_x at_y = paired_entry R parents xs ys node x y all.1 at_x at_y

-- where the ends so far are made of the entries so far, one more end is made of the next entry
pub one_more_end : {E F X : Type 0} (view : E → F) (made_of : X → F) (ends : List E) (end : E) (xs : List X) (place : ℕ) (x copy : X)
    → place < length xs → x ≡ get_or xs place x → copy ≡ x → view end ≡ made_of copy → map view ends ≡ map made_of (take place xs)
    → map view (ends ++ end ∷ []) ≡ map made_of (take (place + 1) xs)
one_more_end view made_of ends end xs place x copy within read same shows so_far =
    let next : view end ≡ made_of (get_or xs place x) = shows ∙ (ap made_of same ∙ ap made_of read) in
    map-append view ends (end ∷ [])
    ∙ (ap (λ front. front ++ view end ∷ []) so_far
    ∙ (ap (λ y. map made_of (take place xs) ++ y ∷ []) next ∙ sym (map_more made_of xs place x within)))
