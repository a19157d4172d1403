-- The root, which has each published item.
use Rattle.std.proofs.Common.{◌≡◌, ℕ, zero, suc, ◌+◌, ◌<◌, List, [], ◌∷◌, length, get_or, refl, ap, sym, ◌∙◌, arith}
use Rattle.std.specs.Prelude.{Contains}
use Rattle.std.proofs.lemmas.List.{get_or-map, length-map}
use Rattle.stab_core.specs.Picks.{RisesFrom, AllBelow, Picks}
use Rattle.stab_core.proofs.ForCallers.{rises_from_lower, below_higher, at_places, raised, raised_rise, raised_below, items_after, member_is_at, at_is_member}

-- every place of a list
abbrev pub all_places : List ℕ → List ℕ
all_places [] = []
all_places (x ∷ xs) = 0 ∷ raised 1 (all_places xs)

-- they rise
pub all_rise : (xs : List ℕ) → RisesFrom 0 (all_places xs)
all_rise [] = tt
all_rise (x ∷ xs) =
    (omega arith, rises_from_lower (0 + 1) (1 + 0) (raised 1 (all_places xs)) (omega arith) (raised_rise 1 0 (all_places xs) (all_rise xs)))

-- they lie in the list
pub all_below : (xs : List ℕ) → AllBelow (length xs) (all_places xs)
all_below [] = tt
all_below (x ∷ xs) =
    (omega arith, below_higher (1 + length xs) (suc (length xs)) (raised 1 (all_places xs)) (omega arith) (raised_below 1 (length xs) (all_places xs) (all_below xs)))

-- there are as many as items
pub length_all : (xs : List ℕ) → length (all_places xs) ≡ length xs
length_all [] = refl
length_all (x ∷ xs) = ap suc (length-map (all_places xs) (λ place. 1 + place) ∙ length_all xs)

-- each is at its own place
pub all_at : (xs : List ℕ) (i : ℕ) → i < length xs → get_or (all_places xs) i 0 ≡ i
all_at [] i here = absurd (omega arith)
all_at (x ∷ xs) zero here = refl
all_at (x ∷ xs) (suc i) here =
    get_or-map (λ place. 1 + place) (all_places xs) i 0 0 (omega (arith, length_all xs))
    ∙ omega (arith, all_at xs i (omega arith))

-- the items at every place are the list
pub all_items : (xs : List ℕ) → at_places xs (all_places xs) ≡ xs
all_items [] = refl
all_items (x ∷ xs) = ap (λ rest. x ∷ rest) (sym (items_after (x ∷ []) xs (all_places xs)) ∙ all_items xs)

-- a whole list is picked from itself
pub all_picked : (items : List ℕ) → Picks items (all_places items) items
all_picked items = record { rising = all_rise items; in_list = all_below items; the_items = sym (all_items items) }

-- every place of a list is there
pub all_there : (items : List ℕ) (i : ℕ) → i < length items → Contains (all_places items) i
all_there items i within =
    at_is_member (all_places items) i i (record { within = omega (arith, length_all items); is_there = all_at items i within })

-- below a place of a list, every place is a place of it
pub all_lower : (items : List ℕ) (i q : ℕ) → i < q → Contains (all_places items) q → Contains (all_places items) i
all_lower items i q before last =
    let (k, here) = member_is_at (all_places items) q last in
    let in_list : k < length items = omega (arith, here.within, length_all items) in
    let high : k ≡ q = omega (arith, here.is_there, all_at items k in_list) in
    at_is_member (all_places items) i i (record { within = omega (arith, length_all items); is_there = all_at items i (omega arith) })
