-- Where a link stands between the bounds of its law: how many strays were delivered, and how many
-- acknowledged items were not.
-- Example: After the worst start 99 and 13 were delivered, with the origins `Stray 0` and `Sent 3`,
-- and 3 items are acknowledged. That is 1 stray, and 3 items are missing: 0, 1 and 2.
-- Source: this project's own.
use Rattle.std.specs.Prelude.{ℕ, zero, suc, ◌+◌, ◌==◌, ◌||◌, Bool, true, false, List, [], ◌∷◌}
use Rattle.std.specs.Prelude.{if◌then◌else◌}
use Rattle.stab_core.specs.declared.origin.Origin.{Origin}
use Rattle.stab_core.specs.declared.origin.Origin.TheVariants.{Stray, Sent}

abbrev pub is_stray : Origin → Bool
is_stray (Stray place) = true
is_stray (Sent place) = false

-- how many strays were delivered
abbrev pub strays_in : List Origin → ℕ
strays_in [] = 0
strays_in (o ∷ os) = (if is_stray o then 1 else 0) + strays_in os

-- this comes from the offered item at this place
abbrev pub comes_from : ℕ → Origin → Bool
comes_from i (Stray place) = false
comes_from i (Sent place) = place == i

-- the offered item at this place was delivered
abbrev pub was_delivered : ℕ → List Origin → Bool
was_delivered i [] = false
was_delivered i (o ∷ os) = comes_from i o || was_delivered i os

-- how many of the first n offered items were not delivered
abbrev pub missing_of : ℕ → List Origin → ℕ
missing_of zero os = 0
missing_of (suc n) os = missing_of n os + (if was_delivered n os then 0 else 1)
