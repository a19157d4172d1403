-- What the bodies of a root tell, where changes that wait are merged: of each key that waits the
-- value that it has when the body is published.
-- Example: Key 1 is set to 5, then to 6, and key 2 is set to 7. The keys 1 and 2 wait, in this
-- order. The next body of changes tells that 1 has 6 and 2 has 7, and nothing waits any more.
-- Source: this project's own.
use Rattle.std.specs.Prelude.{◌≡◌, ℕ, ◌==◌, ◌||◌, Bool, false, List, [], ◌∷◌, ◌++◌, length, map}
use Rattle.std.specs.Prelude.{take, drop}
use Rattle.std.specs.List.{fold}
use Rattle.stab_settings.specs.Tables.{Setting, Table, set_key}
use Rattle.rignolda_agent.specs.declared.publisher.Next.{Next}
use Rattle.rignolda_agent.specs.declared.publisher.Next.TheVariants.{Nothing, Harmless, Changes}
use Rattle.rignolda_agent.specs.declared.publisher.Next.TheVariants.{Whole}
use Rattle.rignolda_agent.specs.Publishers.{taken}

-- a root's settings as they were read, and the keys whose changes wait, in their order
pub record Settings : Type 0 where
  pub table : Table
  pub waiting : List ℕ

abbrev pub has : ℕ → List ℕ → Bool
has key [] = false
has key (k ∷ ks) = (key == k) || has key ks

-- a key that waits, with what it is now
abbrev pub setting_of : Table → ℕ → Setting
setting_of table key = record { key = key; value = table key }

-- the keys that the next body of changes has
abbrev pub first_keys : List ℕ → List ℕ
first_keys keys = take (taken Changes (length keys)) keys

-- what an agent's table is after this body
abbrev pub told : Settings → Table → Next → Table
told root table Nothing = table
told root table Harmless = table
told root table Changes =
    fold set_key table (map (setting_of root.table) (first_keys root.waiting))
told root table Whole = root.table

-- what happens at a root: settings are read anew, perhaps as they were, and with them come keys
-- that wait from now on; then a body is published
pub record Act : Type 0 where
  pub read : Table
  pub keys : List ℕ
  pub body : Next

-- Each key whose value differs waits.
abbrev pub AllWait : Settings → Act → Type 0
AllWait root act =
    (key : ℕ) → has key (root.waiting ++ act.keys) ≡ false → act.read key ≡ root.table key

abbrev pub reading : Settings → Act → Settings
reading root act = record { table = act.read; waiting = root.waiting ++ act.keys }

abbrev pub after_act : Settings → Act → Settings
after_act root act =
    let read = reading root act in
    record read { waiting = drop (taken act.body (length read.waiting)) read.waiting }

abbrev pub after_acts : Settings → List Act → Settings
after_acts = fold after_act

-- an agent's table after the bodies of all of these
abbrev pub told_all : Settings → Table → List Act → Table
told_all root table [] = table
told_all root table (act ∷ acts) =
    told_all (after_act root act) (told (reading root act) table act.body) acts

abbrev pub EachWaits : Settings → List Act → Type 0
EachWaits root [] = Unit {0}
EachWaits root (act ∷ acts) = AllWait root act × EachWaits (after_act root act) acts

-- A table is the root's, beside each key that does not wait.
abbrev pub AgreesBesideWaiting : Settings → Table → Type 0
AgreesBesideWaiting root table =
    (key : ℕ) → has key root.waiting ≡ false → table key ≡ root.table key
