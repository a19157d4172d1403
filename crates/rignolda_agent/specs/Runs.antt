-- Runs of a root while no agent says a newer number: what comes before each call for the next body,
-- and what is published then.
-- Changes wait in the order in which they came, a change of a key that waits already at the place
-- of that one; bodies take them from the front.
-- Source: this project's own.
use Rattle.std.specs.Prelude.{◌≡◌, ℕ, suc, ◌+◌, ◌-◌, ◌≤◌, nat_lt, Bool, true, false, if◌then◌else◌, List}
use Rattle.std.specs.Prelude.{[], ◌∷◌, ◌++◌, Option, Some, None}
use Rattle.rignolda_agent.specs.declared.publisher.Next.{Next}
use Rattle.rignolda_agent.specs.declared.publisher.Next.TheVariants.{Nothing, Harmless, Changes}
use Rattle.rignolda_agent.specs.declared.publisher.Next.TheVariants.{Whole}
use Rattle.rignolda_agent.specs.Numbers.{next as after_number}
use Rattle.rignolda_agent.specs.Publishers.{Publisher, after_body, begun}
use Rattle.rignolda_agent.specs.Publishers.{is_in_a_round, next, taken}

-- a root with its publisher, and how many changes wait
pub record Root : Type 0 where
  pub publisher : Publisher
  pub changes : ℕ

pub record Call : Type 0 where
  -- how many changes came before the call of keys of which none waited
  pub more : ℕ
  -- the round that was asked for, by its harmless bodies
  pub asked : Option ℕ
  pub held : Bool
  -- how many bodies may follow a table
  pub limit : ℕ
  -- how many bytes the body has that is published
  pub bytes : ℕ

abbrev pub asked_for : Publisher → Option ℕ → Publisher
asked_for p None = p
asked_for p (Some harmless) = begun p harmless

-- the root when the call comes
abbrev pub before : Root → Call → Root
before r c = record {
  publisher = record (asked_for r.publisher c.asked) { held = c.held };
  changes = r.changes + c.more;
}

abbrev pub body : Root → Call → Next
body r c = next (before r c).publisher (before r c).changes c.limit

-- how many changes the body takes
abbrev pub takes : Root → Call → ℕ
takes r c = taken (body r c) (before r c).changes

abbrev pub after_call : Root → Call → Root
after_call r c = record {
  publisher = after_body (body r c) (before r c).publisher c.bytes;
  changes = (before r c).changes - takes r c;
}

-- ---- numbers

abbrev pub with_number : Next → ℕ → List ℕ → List ℕ
with_number Nothing number numbers = numbers
with_number Harmless number numbers = number ∷ numbers
with_number Changes number numbers = number ∷ numbers
with_number Whole number numbers = number ∷ numbers

-- the numbers of the bodies that are published at these calls
abbrev pub numbers : Root → List Call → List ℕ
numbers r [] = []
numbers r (c ∷ cs) =
    with_number (body r c) (after_call r c).publisher.number (numbers (after_call r c) cs)

-- each number is the next one after the one before it, the first after this one
abbrev pub FollowEachOther : ℕ → List ℕ → Type 0
FollowEachOther before [] = Unit {0}
FollowEachOther before (number ∷ numbers) =
    (number ≡ after_number before) × FollowEachOther number numbers

-- ---- rounds

-- the bodies at these calls until no round is under way
abbrev pub until_over : Root → List Call → List Next
until_over r [] = []
until_over r (c ∷ cs) =
    if is_in_a_round r.publisher then body r c ∷ until_over (after_call r c) cs else []

abbrev pub count_harmless : List Next → ℕ
count_harmless [] = 0
count_harmless (Nothing ∷ bodies) = count_harmless bodies
count_harmless (Harmless ∷ bodies) = suc (count_harmless bodies)
count_harmless (Changes ∷ bodies) = count_harmless bodies
count_harmless (Whole ∷ bodies) = count_harmless bodies

-- exactly so many harmless bodies, others between them, and then the whole table
pub record IsRound (harmless : ℕ) (bodies : List Next) : Type 0 where
  pub front : List Next
  pub table_last : bodies ≡ front ++ Whole ∷ []
  pub all_harmless : count_harmless front ≡ harmless

-- a round that is asked for has no fewer harmless bodies than this
abbrev pub IsNoShorter : ℕ → Option ℕ → Type 0
IsNoShorter harmless None = Unit {0}
IsNoShorter harmless (Some asked) = harmless ≤ asked

-- these calls let a round with so many harmless bodies go on: tables are not held, and no shorter
-- round is asked for
abbrev pub LetGoOn : ℕ → List Call → Type 0
LetGoOn harmless [] = Unit {0}
LetGoOn harmless (c ∷ cs) =
    (c.held ≡ false) × IsNoShorter harmless c.asked × LetGoOn harmless cs

-- ---- changes

-- whether the change that has so many before it still waits after these calls
abbrev pub still_waits : Root → ℕ → List Call → Bool
still_waits r place [] = true
still_waits r place (c ∷ cs) =
    if nat_lt place (takes r c) then false
    else still_waits (after_call r c) (place - takes r c) cs
