-- A list of acts is the same list wherever its acts are.
-- Source: this project's profile.
use Rattle.std.specs.Prelude.{List}
use Rattle.std.specs.Arc.{arc_slice_items}
use Rattle.stab_acts.specs.declared.acts.Place.{Place}
use Rattle.stab_acts.specs.declared.acts.Place.TheVariants.{Own, Shared}

-- the acts at a place
abbrev pub acts_at : {A : Type 0} → Place A → List A
acts_at (Own acts) = acts.items
acts_at (Shared acts) = arc_slice_items acts
