-- Names of which no two are the same.
use Rattle.std.proofs.Common.{◌≡◌, ◌≢◌, ℕ, false, List, [], ◌∷◌, refl}
use Rattle.std.proofs.lemmas.Bool.{or_from, or_parts}
use Rattle.std.proofs.lemmas.Map.Made.{AllPairs-from_IsDistinct, IsDistinct-from_AllPairs}
use Rattle.std.proofs.lemmas.Slice.Eq.{bytes_eq-Decides}
use Rattle.std.specs.List.{AllByRecursion, AllPairs, IsDistinct, list_any}
use Rattle.std.specs.Str.{bytes_eq}
use Rattle.stab_tree.specs.Name.{has_same_name}

-- a name that is not among others differs from each of them
differs_from_each : (name : List ℕ) (names : List (List ℕ)) → list_any (bytes_eq name) names ≡ false → AllByRecursion (λ other. bytes_eq name other ≡ false) names
differs_from_each name [] absent = tt
differs_from_each name (other ∷ names) absent = let parts = or_parts _ _ absent in (parts.0, differs_from_each name names parts.1)

-- a name that differs from each of others is not among them
not_among : (name : List ℕ) (names : List (List ℕ)) → AllByRecursion (λ other. bytes_eq name other ≡ false) names → list_any (bytes_eq name) names ≡ false
not_among name [] differs = refl
not_among name (other ∷ names) differs = or_from _ _ differs.0 (not_among name names differs.1)

-- names that pass the test are distinct by std's word
are_distinct : (names : List (List ℕ)) → has_same_name names ≡ false → IsDistinct bytes_eq names
unfolding IsDistinct
are_distinct [] none = tt
are_distinct (name ∷ names) none =
    let parts = or_parts _ _ none in (differs_from_each name names parts.0, are_distinct names parts.1)

-- names that are distinct pass the test
none_same : (names : List (List ℕ)) → IsDistinct bytes_eq names → has_same_name names ≡ false
unfolding IsDistinct
none_same [] distinct = refl
none_same (name ∷ names) distinct = or_from _ _ (not_among name names distinct.0) (none_same names distinct.1)

-- no two names are the same exactly if each differs from each later one
pub own_names : (names : List (List ℕ)) → has_same_name names ≡ false → AllPairs (λ s u. s ≢ u) names
own_names names none = AllPairs-from_IsDistinct bytes_eq-Decides names (are_distinct names none)

pub no_same_name : (names : List (List ℕ)) → AllPairs (λ s u. s ≢ u) names → has_same_name names ≡ false
no_same_name names own = none_same names (IsDistinct-from_AllPairs bytes_eq-Decides names own)
