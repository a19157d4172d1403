-- Picked items without the first of them: the other places, of which no more are missing than one
-- for each item that is gone.
use Rattle.std.proofs.Common.{◌≡◌, ℕ, zero, suc, ◌+◌, ◌<◌, ◌≤◌, List, [], ◌∷◌, map, length, drop, slice_index, Contains, refl, ◌∙◌, ap, arith}
use Rattle.stab_core.specs.LinkLaw.{NoneMissingFrom}
use Rattle.stab_core.specs.Picks.{AllBelow, Picks, RisesFrom}
use Rattle.stab_core.proofs.ForCallers.{member_is_at, rises_above, rises_from_lower}
use Rattle.stab_treecore.specs.TreeLaw.{NoneMissingBefore}

rises_dropped : (n low : ℕ) (ps : List ℕ) → RisesFrom low ps → RisesFrom low (drop n ps)
rises_dropped zero low ps rises = rises
rises_dropped (suc n) low [] rises = tt
rises_dropped (suc n) low (p ∷ ps) rises =
    rises_from_lower low (p + 1) (drop n ps) (omega (arith, rises.0)) (rises_dropped n (p + 1) ps rises.1)

below_dropped : (n bound : ℕ) (ps : List ℕ) → AllBelow bound ps → AllBelow bound (drop n ps)
below_dropped zero bound ps below = below
below_dropped (suc n) bound [] below = tt
below_dropped (suc n) bound (p ∷ ps) below = below_dropped n bound ps below.1

dropped_map : (f : ℕ → ℕ) (n : ℕ) (ps : List ℕ) → drop n (map f ps) ≡ map f (drop n ps)
dropped_map f zero ps = refl
dropped_map f (suc n) [] = refl
dropped_map f (suc n) (p ∷ ps) = dropped_map f n ps

-- what is picked without its first items
pub picks_dropped : (n : ℕ) (items places picked : List ℕ) → Picks items places picked → Picks items (drop n places) (drop n picked)
picks_dropped n items places picked picks = record {
  rising = rises_dropped n 0 places picks.rising;
  in_list = below_dropped n (length items) places picks.in_list;
  the_items = ap (λ xs. drop n xs) picks.the_items ∙ dropped_map (λ place. slice_index items place) n places;
}

-- no member of rising places is lower than the first of them
first_is_lowest : (low p i : ℕ) (ps : List ℕ) → RisesFrom low (p ∷ ps) → Contains (p ∷ ps) i → p ≤ i
first_is_lowest low p i ps rises member =
    let (k, here) = member_is_at (p ∷ ps) i member in
    omega (arith, here.is_there, rises_above p (p ∷ ps) k (omega arith, rises.1) here.within)

-- a member that is higher than the first place is among the others
among_others : (p i : ℕ) (ps : List ℕ) → p < i → Contains (p ∷ ps) i → Contains ps i
among_others p i ps higher (zero, within, is) = absurd (omega (arith, is))
among_others p i ps higher (suc k, within, is) = (k, omega (arith, within), is)

-- a member of the others is a member
one_of_all : (p i : ℕ) (ps : List ℕ) → Contains ps i → Contains (p ∷ ps) i
one_of_all p i ps (k, within, is) = (suc k, omega (arith, within), is)

-- before the last of the others one more is missing at most
pub none_before_dropped : (n first low : ℕ) (ps : List ℕ) → RisesFrom low ps → NoneMissingBefore first ps
    → NoneMissingBefore (first + n) (drop n ps)
none_before_dropped zero first low ps rises none i q enough before last = none i q (omega (arith, enough)) before last
none_before_dropped (suc n) first low [] rises none i q enough before last = none i q (omega (arith, enough)) before last
none_before_dropped (suc n) first low (p ∷ ps) rises none i q enough before last =
    none_before_dropped n (first + 1) (p + 1) ps rises.1
    (λ j r far below member.
    let there : Contains (p ∷ ps) first = none first r (omega arith) (omega arith) (one_of_all p r ps member) in
    let lowest : p ≤ first = first_is_lowest low p first ps rises there in
    among_others p j ps (omega arith) (none j r (omega arith) below (one_of_all p r ps member)))
    i q (omega (arith, enough)) before last

-- and so of the acknowledged
pub none_from_dropped : (n first acked low : ℕ) (ps : List ℕ) → RisesFrom low ps → NoneMissingFrom first acked ps
    → NoneMissingFrom (first + n) acked (drop n ps)
none_from_dropped zero first acked low ps rises none i enough before = none i (omega (arith, enough)) before
none_from_dropped (suc n) first acked low [] rises none i enough before = none i (omega (arith, enough)) before
none_from_dropped (suc n) first acked low (p ∷ ps) rises none i enough before =
    none_from_dropped n (first + 1) acked (p + 1) ps rises.1
    (λ j far below.
    let there : Contains (p ∷ ps) first = none first (omega arith) (omega arith) in
    let lowest : p ≤ first = first_is_lowest low p first ps rises there in
    among_others p j ps (omega arith) (none j (omega arith) below))
    i (omega (arith, enough)) before
