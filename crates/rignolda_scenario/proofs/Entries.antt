-- Lists that have neither two values nor three.
use Rattle.std.proofs.Common.{◌≡◌, ◌<◌, ◌≤◌, List, [], ◌∷◌, length, None, refl, arith}
use Rattle.serde_json.specs.View.{items_view}
use Rattle.serde_json.specs.declared.value.Value.{Value}
use Rattle.rignolda_scenario.specs.Entries.{two_or_three}

-- fewer than two values
pub few_are_none : (vs : List Value) → length vs < 2 → two_or_three (items_view vs) ≡ None
few_are_none [] few = refl
few_are_none (v ∷ []) few = refl
few_are_none (v ∷ w ∷ rest) few = absurd (omega arith)

-- more than three values
pub more_are_none : (vs : List Value) → 4 ≤ length vs → two_or_three (items_view vs) ≡ None
more_are_none [] many = absurd (omega arith)
more_are_none (v ∷ []) many = absurd (omega arith)
more_are_none (v ∷ w ∷ []) many = absurd (omega arith)
more_are_none (v ∷ w ∷ x ∷ []) many = absurd (omega arith)
more_are_none (v ∷ w ∷ x ∷ y ∷ rest) many = refl
