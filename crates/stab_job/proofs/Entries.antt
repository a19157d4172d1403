-- Lists of values that are no act.
use Rattle.std.proofs.Common.{◌≡◌, ◌<◌, ◌≤◌, List, [], ◌∷◌, length, None, refl, arith}
use Rattle.serde_json.specs.View.{items_view}
use Rattle.serde_json.specs.declared.value.Value.{Value}
use Rattle.stab_job.specs.ScheduleEntries.{act_of_items}

-- fewer than two values are no act
pub fewer_are_no_act : (vs : List Value) → length vs < 2 → act_of_items (items_view vs) ≡ None
fewer_are_no_act [] few = refl
fewer_are_no_act (v ∷ []) few = refl
fewer_are_no_act (v ∷ w ∷ rest) few = absurd (omega arith)

-- more than three values are no act
pub more_are_no_act : (vs : List Value) → 4 ≤ length vs → act_of_items (items_view vs) ≡ None
more_are_no_act [] many = absurd (omega arith)
more_are_no_act (v ∷ []) many = absurd (omega arith)
more_are_no_act (v ∷ w ∷ []) many = absurd (omega arith)
more_are_no_act (v ∷ w ∷ x ∷ []) many = absurd (omega arith)
more_are_no_act (v ∷ w ∷ x ∷ y ∷ rest) many = refl
