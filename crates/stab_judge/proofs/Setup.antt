-- The link into a node, by its place among the links.
use Rattle.std.proofs.Common.{◌≡◌, ℕ, zero, suc, ◌+◌, ◌<◌, ◌≤◌, List, [], ◌∷◌, length, get_or, map, slice_get, Option, Some, None, IsSome, refl, ap, sym, ◌∙◌, arith}
use Rattle.std.proofs.lemmas.List.{get_or-map}
use Rattle.std.proofs.lemmas.Option.{none-some, same_Some}
use Rattle.std.specs.Option.{option_map_or}
use Rattle.stab_frames.specs.Parameters.{Parameters}
use Rattle.stab_core.specs.declared.start.Start.{Start}
use Rattle.stab_core.specs.LinkSetup.{LinkSetup, setup, setups}
use Rattle.stab_core.specs.Replay.{start_items}
use Rattle.stab_core.proofs.Setups.{as_many_setups, setup_at}
use Rattle.stab_tree.specs.Links.{links_from, links_of}
use Rattle.stab_tree.specs.Nodes.{parent_at}
use Rattle.stab_tree.specs.ByChild.{by_child}

-- the children counted from a place on are at this place or after it
children_from : (v : ℕ) (parents : List (Option ℕ)) (k w : ℕ) → slice_get (links_from v parents) k ≡ Some w → v ≤ w
children_from v [] k w is = absurd (none-some w is)
children_from v (None ∷ parents) k w is = omega (arith, children_from (suc v) parents k w is)
children_from v (Some p ∷ parents) zero w is = omega (arith, same_Some v w is)
children_from v (Some p ∷ parents) (suc k) w is = omega (arith, children_from (suc v) parents k w is)

-- what belongs to the link at a place belongs to the link into its child
by_child_found : {A : Type 0} (v : ℕ) (parents : List (Option ℕ)) (xs : List A) (k j : ℕ) (x : A)
    → slice_get (links_from v parents) k ≡ Some (v + j) → k < length xs
    → get_or (by_child parents xs) j None ≡ Some (get_or xs k x)
by_child_found v [] xs k j x is within = absurd (none-some (v + j) is)
by_child_found v (None ∷ parents) xs k zero x is within = absurd (omega (arith, children_from (suc v) parents k (v + 0) is))
by_child_found v (None ∷ parents) xs k (suc j) x is within =
    let next : v + suc j ≡ suc v + j = omega arith in
    by_child_found (suc v) parents xs k j x (is ∙ ap Some next) within
by_child_found v (Some p ∷ parents) [] k j x is within = absurd (omega arith)
by_child_found v (Some p ∷ parents) (y ∷ ys) zero zero x is within = refl
by_child_found v (Some p ∷ parents) (y ∷ ys) zero (suc j) x is within = absurd (omega (arith, same_Some v (v + suc j) is))
by_child_found v (Some p ∷ parents) (y ∷ ys) (suc k) zero x is within =
    absurd (omega (arith, children_from (suc v) parents k (v + 0) is))
by_child_found v (Some p ∷ parents) (y ∷ ys) (suc k) (suc j) x is within =
    let next : v + suc j ≡ suc v + j = omega arith in
    by_child_found (suc v) parents ys k j x (is ∙ ap Some next) (omega arith)

-- nothing belongs to the link into the root
by_child_none : {A : Type 0} (parents : List (Option ℕ)) (xs : List A) (w : ℕ) → parent_at parents w ≡ None
    → get_or (by_child parents xs) w None ≡ None
by_child_none [] xs w root = refl
by_child_none (None ∷ parents) xs zero root = refl
by_child_none (None ∷ parents) xs (suc w) root = by_child_none parents xs w root
by_child_none (Some p ∷ parents) xs zero root = absurd (none-some p (sym root))
by_child_none (Some p ∷ parents) [] (suc w) root = by_child_none parents [] w root
by_child_none (Some p ∷ parents) (x ∷ xs) (suc w) root = by_child_none parents xs w root

-- each place of a list has an entry
entry_at : {A : Type 0} (xs : List A) (k : ℕ) → k < length xs → (x : A) × (x ≡ get_or xs k x)
entry_at [] k within = absurd (omega arith)
entry_at (x ∷ xs) zero within = (x, refl)
entry_at (x ∷ xs) (suc k) within = entry_at xs k (omega arith)

-- the link into a node is the one at its place
pub setup_found : (parents : List (Option ℕ)) (params : List Parameters) (starts : List Start) (k w : ℕ) (p : Parameters) (start : Start)
    → slice_get (links_of parents) k ≡ Some w → length params ≡ length starts → k < length params
    → p ≡ get_or params k p → start ≡ get_or starts k start
    → get_or (by_child parents (setups params starts)) w None ≡ Some (setup p start)
setup_found parents params starts k w p start found same within has_params begins =
    let same_child : w ≡ 0 + w = omega arith in
    by_child_found 0 parents (setups params starts) k w (setup p start) (found ∙ ap Some same_child) (omega (arith, as_many_setups params starts same))
    ∙ ap Some (sym (setup_at params starts k p start within (omega arith) has_params begins))

module _ (parents : List (Option ℕ)) (params : List Parameters) (starts : List Start) where
  abbrev into : ℕ → Option LinkSetup
  into w = get_or (by_child parents (setups params starts)) w None

  -- so the capacity of the link into a node is that of the parameters at its place
  pub capacity_found : (k w : ℕ) (p : Parameters) → slice_get (links_of parents) k ≡ Some w → length params ≡ length starts
      → k < length params → p ≡ get_or params k p → p.capacity ≡ option_map_or (λ link. link.params.capacity) (into w) 0
  capacity_found k w p found same within has_params =
      let (start, begins) = entry_at starts k (omega arith) in
      ap (λ o. option_map_or (λ (link : LinkSetup). link.params.capacity) o 0)
      (sym (setup_found parents params starts k w p start found same within has_params begins))

  -- and its items are those of the start at its place
  pub garbage_found : (k w : ℕ) (items : List ℕ) → slice_get (links_of parents) k ≡ Some w → length params ≡ length starts
      → k < length params → items ≡ get_or (map start_items starts) k items
      → items ≡ option_map_or (λ link. start_items link.start) (into w) []
  garbage_found k w items found same within has =
      let (p, has_params) = entry_at params k within in
      let (start, begins) = entry_at starts k (omega arith) in
      has
      ∙ (get_or-map start_items starts k start items (omega arith)
      ∙ (ap start_items (sym begins)
      ∙ ap (λ o. option_map_or (λ (link : LinkSetup). start_items link.start) o [])
      (sym (setup_found parents params starts k w p start found same within has_params begins))))

  -- the root has neither
  pub no_setup : (w : ℕ) → parent_at parents w ≡ None → into w ≡ None
  no_setup w root = by_child_none parents (setups params starts) w root

-- a node for which no link was found has no parent
pub parentless : (up found : Option ℕ) → found ≡ None → (IsSome up → IsSome found) → up ≡ None
parentless None found is has = refl
parentless (Some p) found is has = let never : IsSome found = has refl in cc
