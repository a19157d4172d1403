-- Reports: numbers that a root hears, and what it publishes above them. A report may be of any
-- moment of any agent, or say anything else.
-- Example: The last number of a root is 9. Twice it hears 12, of an agent whose numbers are 12 and
-- 11, and publishes a table: that has number 13. It hears 7 too, and the next body has number 14.
-- Source: this project's own.
use Rattle.std.specs.Prelude.{◌≡◌, ℕ, ◌≤◌, ◌&&◌, nat_le, Bool, if◌then◌else◌, List, [], ◌∷◌}
use Rattle.std.specs.Prelude.{map, Option, Some, None}
use Rattle.std.specs.List.{AllByRecursion, flat_map, fold}
use Rattle.rignolda_agent.specs.BodySpelling.{Body}
use Rattle.rignolda_agent.specs.Numbers.{furthest, is_newer, next, towards}
use Rattle.rignolda_agent.specs.Rounds.{IsNear, place}
use Rattle.rignolda_agent.specs.Takers.{Taker}

-- ---- what agents report

-- of an agent's number, that of its files and those that agents below it report, the one that is
-- furthest ahead of the first
abbrev pub reported : Taker → List ℕ → ℕ
reported t below = furthest t.number (t.floor ∷ below)

-- neither number of an agent is ahead of this one
abbrev pub covers : ℕ → Taker → ℕ → Bool
covers low t number =
    nat_le (place low t.number) (place low number) && nat_le (place low t.floor) (place low number)

-- both numbers of an agent are near still, and neither has fallen
pub record NeitherFalls (low : ℕ) (before after : Taker) : Type 0 where
  pub number_near : IsNear low after.number
  pub floor_near : IsNear low after.floor
  pub number : place low before.number ≤ place low after.number
  pub floor : place low before.floor ≤ place low after.floor

-- no body that comes has a number that is ahead of this one
abbrev pub NoneAhead : ℕ → ℕ → List (Option Body) → Type 0
NoneAhead low number [] = Unit {0}
NoneAhead low number (None ∷ rest) = NoneAhead low number rest
NoneAhead low number (Some b ∷ rest) =
    (place low b.number ≤ place low number) × NoneAhead low number rest

-- ---- what the root publishes

-- a body, and the reports that the root heard since the one before it
pub record Publication : Type 0 where
  pub heard : List ℕ
  pub body : Body

abbrev pub bodies_of : List Publication → List Body
bodies_of = map (λ p. p.body)

abbrev pub all_heard : List Publication → List ℕ
all_heard = flat_map (λ p. p.heard)

-- the root's last number, once it heard this one: see `gone_above` of Publishers.antt
abbrev pub goes_above : ℕ → ℕ → ℕ
goes_above number heard = if is_newer number heard then towards number heard else number

-- each body has the number after the root's last one
abbrev pub AreNumbered : ℕ → List Publication → Type 0
AreNumbered number [] = Unit {0}
AreNumbered number (p ∷ ps) =
    (p.body.number ≡ next (fold goes_above number p.heard)) × AreNumbered p.body.number ps

-- all numbers that it heard and published are near a lowest one
abbrev pub AreAllNear : ℕ → List Publication → Type 0
AreAllNear low =
    AllByRecursion (λ p. AllByRecursion (IsNear low) p.heard × IsNear low p.body.number)
