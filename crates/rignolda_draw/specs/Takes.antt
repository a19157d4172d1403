-- What takes the rows of a run, one after the other: a list that keeps them, or a text.
-- Example: A list of two rows that takes a third one is those three.
-- Source: this project's own.
use Rattle.std.specs.Prelude.{List, ◌++◌}
use Rattle.rignolda_draw.specs.declared.row.Row.{Row}

-- whatever rows it had taken, it has taken these after them
abbrev pub TakesOn : {S : Type 0} → (S → List Row → Type 0) → S → List Row → S → Type 0
TakesOn HasTaken old rows new =
    (earlier : List Row) → HasTaken old earlier → HasTaken new (earlier ++ rows)

-- and no others
abbrev pub TakesNone : {S : Type 0} → (S → List Row → Type 0) → S → S → Type 0
TakesNone HasTaken old new = (earlier : List Row) → HasTaken old earlier → HasTaken new earlier
