-- What an agent hears: numbers that are near each other, and a round.
-- Source: this project's own.
use Rattle.std.specs.Prelude.{◌-◌, ◌≡◌, ℕ, ◌==◌, ◌<◌, ◌≤◌, ◌&&◌, not, Bool, true, if◌then◌else◌}
use Rattle.std.specs.Prelude.{List, [], ◌∷◌, ◌++◌, Option, Some, None}
use Rattle.std.specs.List.{AllByRecursion}
use Rattle.rignolda_agent.specs.declared.body.Kind.TheVariants.{Table}
use Rattle.rignolda_agent.specs.BodySpelling.{Body}
use Rattle.rignolda_agent.specs.Numbers.{ahead, circle, half, is_newer, next}
use Rattle.rignolda_agent.specs.Takers.{Taker}

-- ---- nothing older

-- how far a number is ahead of a lowest one; that which is no number is not
abbrev pub place : ℕ → ℕ → ℕ
place low number = if number == 0 then 0 else ahead low number

-- a number that is ahead of this one by less than half of the circle
abbrev pub IsNear : ℕ → ℕ → Type 0
IsNear low number = (number < circle) × (place low number < half)

-- a number that is ahead of this one by a little less than that
abbrev pub IsWithin : ℕ → ℕ → Type 0
IsWithin low number = (number < circle) × (0 < number) × (ahead low number < half - 2)

-- every body that comes has a number that is near
abbrev pub AllNear : ℕ → List (Option Body) → Type 0
AllNear low [] = Unit {0}
AllNear low (None ∷ rest) = AllNear low rest
AllNear low (Some b ∷ rest) = IsNear low b.number × AllNear low rest

-- none of these numbers is older than the one before it
abbrev pub NeverFall : ℕ → ℕ → List ℕ → Type 0
NeverFall low from [] = Unit {0}
NeverFall low from (number ∷ numbers) =
    (place low from ≤ place low number) × NeverFall low number numbers

-- ---- rounds

-- the second number is behind the first
abbrev pub is_behind : ℕ → ℕ → Bool
is_behind number other = is_newer other number && not (is_newer number other)

-- both numbers of an agent are behind this one
pub record IsReady (number : ℕ) (t : Taker) : Type 0 where
  pub taken : is_behind number t.number ≡ true
  pub floor : is_behind number t.floor ≡ true

-- each body is newer than the one before it
abbrev pub Rise : ℕ → List Body → Type 0
Rise below [] = Unit {0}
Rise below (b ∷ bs) = (is_behind b.number below ≡ true) × Rise b.number bs

-- A round: its table, what was published before that and is behind it, and what came later.
pub record IsRound (bodies : List Body) (table : Body) (later : List Body) : Type 0 where
  pub before : List Body
  pub is : bodies ≡ before ++ table ∷ later
  pub is_table : table.kind ≡ Table
  pub behind : AllByRecursion (λ b. is_behind table.number b.number ≡ true) before
  pub rise : Rise table.number later

-- ---- runs

-- each body has the number after that of the one before it, which is behind it
abbrev pub IsRun : ℕ → List Body → Type 0
IsRun below [] = Unit {0}
IsRun below (b ∷ bs) =
    (next below ≡ b.number) × (is_behind b.number below ≡ true) × IsRun b.number bs

-- the number of the last body, or this one where there is none
abbrev pub last_number : ℕ → List Body → ℕ
last_number number [] = number
last_number number (b ∷ bs) = last_number b.number bs
