-- The greatest number of a list; of a list without numbers it is 0.
-- Example: The greatest of 2, 5, 3 is 5.
-- Source: this project's own.
use Rattle.std.specs.Prelude.{ℕ, List, [], ◌∷◌, max}

abbrev pub greatest : List ℕ → ℕ
greatest [] = 0
greatest (number ∷ numbers) = max number (greatest numbers)
