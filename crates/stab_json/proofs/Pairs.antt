-- Lists of two values.
use Rattle.std.proofs.Common.{◌≡◌, ◌<◌, ◌≤◌, List, [], ◌∷◌, length, None, refl, arith}
use Rattle.serde_json.specs.View.{items_view}
use Rattle.serde_json.specs.declared.value.Value.{Value}
use Rattle.stab_json.specs.Values.{pair_of_items}

-- fewer than two values are no pair
pub fewer_are_no_pair : (vs : List Value) → length vs < 2 → pair_of_items (items_view vs) ≡ None
fewer_are_no_pair [] few = refl
fewer_are_no_pair (v ∷ []) few = refl
fewer_are_no_pair (v ∷ w ∷ rest) few = absurd (omega arith)

-- more than two values are no pair
pub more_are_no_pair : (vs : List Value) → 3 ≤ length vs → pair_of_items (items_view vs) ≡ None
more_are_no_pair [] many = absurd (omega arith)
more_are_no_pair (v ∷ []) many = absurd (omega arith)
more_are_no_pair (v ∷ w ∷ []) many = absurd (omega arith)
more_are_no_pair (v ∷ w ∷ x ∷ rest) many = refl
