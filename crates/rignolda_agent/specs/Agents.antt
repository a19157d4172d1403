-- Agents: what they come to by bodies, and by starts of their process.
-- Example: The files of an agent have `colour` blue and number 9. It starts again, and hears number
-- 8, a whole table in which `colour` is red, then 9, in which it is blue. Its files never have red.
-- Source: this project's own.
use Rattle.std.specs.Prelude.{◌≡◌, ◌⊎◌, ℕ, ◌==◌, ◌&&◌, not, Bool, true, false, if◌then◌else◌}
use Rattle.std.specs.Prelude.{List, [], ◌∷◌, ◌++◌, Option, Some, None, nat_eq}
use Rattle.std.specs.List.{fold}
use Rattle.std.specs.Cmp.Lexicographic.{pointwise}
use Rattle.rignolda_agent.specs.declared.body.Kind.{Kind}
use Rattle.rignolda_agent.specs.declared.body.Kind.TheVariants.{Changes, Table, Harmless}
use Rattle.rignolda_agent.specs.BodySpelling.{Setting, Body}
use Rattle.rignolda_agent.specs.Numbers.{next}
use Rattle.rignolda_agent.specs.Takers.{Taker, takes, is_held, drops, after, restarted}

-- ---- settings

-- the value beside each key, where there is one
abbrev pub Settings : Type 0
Settings = List ℕ → Option (List ℕ)

abbrev pub none_set : Settings
none_set key = None

abbrev pub set_key : Settings → Setting → Settings
set_key settings s = λ key. if pointwise nat_eq key s.key then s.value else settings key

-- A table says all settings, changes say some of them, and a harmless body says nothing.
abbrev pub told : Kind → Settings → List Setting → Settings
told Changes settings said = fold set_key settings said
told Table settings said = fold set_key none_set said
told Harmless settings said = settings

abbrev pub tell : Settings → Body → Settings
tell settings b = told b.kind settings b.settings

-- the settings after all of these bodies
abbrev pub tell_all : Settings → List Body → Settings
tell_all = fold tell

-- ---- agents

pub record Agent : Type 0 where
  pub taker : Taker
  -- bodies that were taken and are not applied
  pub waiting : List Body
  pub files : Settings

-- what waits once this body was taken
abbrev pub with_body : Agent → Body → List Body
with_body a b = (if drops a.taker b.kind b.number then [] else a.waiting) ++ b ∷ []

abbrev pub applied_if : Bool → Agent → List Body → Taker → Agent
applied_if true a bodies t = record { taker = t; waiting = []; files = tell_all a.files bodies }
applied_if false a bodies t = record { taker = t; waiting = bodies; files = a.files }

abbrev pub taken_if : Bool → Agent → Body → Taker → Agent
taken_if true a b t = applied_if (not (is_held a.taker b.number)) a (with_body a b) t
taken_if false a b t = record { taker = t; waiting = a.waiting; files = a.files }

-- the agent after a body came
abbrev pub hears : Agent → Body → Agent
hears a b = taken_if (takes a.taker b.number) a b (after a.taker b.kind b.number)

abbrev pub hears_all : Agent → List Body → Agent
hears_all = fold hears

abbrev pub starts_again : Agent → Agent
starts_again a = record { taker = restarted a.taker; waiting = []; files = a.files }

-- ---- whole histories

-- a body comes, or the process starts again
abbrev pub happens : Agent → Option Body → Agent
happens a (Some b) = hears a b
happens a None = starts_again a

-- a body with this number is applied as it comes
abbrev pub applies : Agent → ℕ → Bool
applies a number = takes a.taker number && not (is_held a.taker number)

abbrev pub number_if : Bool → ℕ → List ℕ
number_if true number = number ∷ []
number_if false number = []

-- the numbers that the files come to by what happens, one after the other
abbrev pub applied_by : Agent → Option Body → List ℕ
applied_by a (Some b) = number_if (applies a b.number) b.number
applied_by a None = []

abbrev pub applied : Agent → List (Option Body) → List ℕ
applied a [] = []
applied a (it ∷ rest) = applied_by a it ++ applied (happens a it) rest

abbrev pub happens_all : Agent → List (Option Body) → Agent
happens_all = fold happens

-- ---- what waits

-- after each body comes the one with the next number, or a table, which lacks nothing
abbrev pub LacksNothing : List Body → Type 0
LacksNothing [] = Unit {0}
LacksNothing (b ∷ []) = Unit {0}
LacksNothing (b ∷ c ∷ rest) =
    ((c.kind ≡ Table) ⊎ (next b.number ≡ c.number)) × LacksNothing (c ∷ rest)

-- what waits ends with this number
abbrev pub EndsAt : ℕ → List Body → Type 0
EndsAt number [] = Unit {0}
EndsAt number (b ∷ []) = b.number ≡ number
EndsAt number (b ∷ c ∷ rest) = EndsAt number (c ∷ rest)

-- What waits lacks nothing, and ends with the last body that was taken; as long as something waits,
-- the files have a newer number.
pub record WaitsWell (a : Agent) : Type 0 where
  pub lacks_nothing : LacksNothing a.waiting
  pub last : EndsAt a.taker.number a.waiting
  pub held : (a.waiting ≡ []) ⊎ (is_held a.taker a.taker.number ≡ true)
  pub one : (a.waiting ≡ []) ⊎ ((a.taker.number == 0) ≡ false)
