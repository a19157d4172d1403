-- Changes that wait at an agent to be applied, merged: of each key the last one, and a whole table
-- in the place of all that waited. With each go the number of the first change that waits for it
-- and its own.
-- Example: Changes with number 7 set key 1 to 5 and key 2 to 6, and those with number 8 set key 1
-- to 9. Then 9 waits beside key 1 with the numbers 7 and 8, and 6 beside key 2 with 7 and 7.
-- Source: this project's own.
use Rattle.std.specs.Prelude.{ℕ, ◌==◌, ◌||◌, Bool, true, if◌then◌else◌, List, Option, Some, None}
use Rattle.std.specs.List.{fold}
use Rattle.rignolda_agent.specs.Numbers.{is_newer}
use Rattle.rignolda_agent.specs.declared.waits.Waits.{Waits as Struct}
use Rattle.stab_settings.specs.Tables.{Setting, Table, set_key, empty_table}
use Rattle.rignolda_agent.specs.declared.publisher.Next.{Next}
use Rattle.rignolda_agent.specs.declared.publisher.Next.TheVariants.{Nothing, Harmless, Changes}
use Rattle.rignolda_agent.specs.declared.publisher.Next.TheVariants.{Whole}

-- a change: what the setting is to be, unless it is unset, and the numbers of the first change that
-- waits for this one, and its own
pub record Change : Type 0 where
  pub value : Option ℕ
  pub first : ℕ
  pub last : ℕ

-- the older one of two numbers; no number is older than all
abbrev pub older : ℕ → ℕ → ℕ
older one other = if one == 0 || is_newer one other then one else other

-- ---- one key

-- what waits beside a key once another change of it came
abbrev pub merged : Option Change → Change → Change
merged None came = came
merged (Some waits) came = record came { first = older came.first waits.first }

-- what waits beside a key that a whole table leaves out, whose numbers these are
abbrev pub left_out : Option Change → ℕ → ℕ → Change
left_out None first last = record { value = None; first = first; last = last }
left_out (Some waits) first last = waits

-- what the struct means beside a value that its caller keeps
abbrev pub waits_with : Struct → Option ℕ → Option Change
waits_with waits value =
    if waits.is_there == 0 then None
    else Some (record { value = value; first = waits.first; last = waits.last })

-- ---- all keys

-- what waits beside each key, if something does, and whether a whole table waits
pub record Waiting : Type 0 where
  pub change : ℕ → Option (Option ℕ)
  pub whole : Bool

abbrev pub put : (ℕ → Option (Option ℕ)) → Setting → ℕ → Option (Option ℕ)
put change setting key = if key == setting.key then Some setting.value else change key

-- what waits after a body with these settings
abbrev pub after_coming : Waiting → Next → List Setting → Waiting
after_coming w Nothing settings = w
after_coming w Harmless settings = w
after_coming w Changes settings = record w { change = fold put w.change settings }
after_coming w Whole settings = record { change = fold put (λ key. None) settings; whole = true }

-- what a table is once all that waits is applied: where a whole one waits, what nothing names is
-- unset
abbrev pub value_if : Option (Option ℕ) → Option ℕ → Option ℕ
value_if None before = before
value_if (Some value) before = value

abbrev pub applied : Waiting → Table → Table
applied w table key = value_if (w.change key) (if w.whole then None else table key)

-- what a table is after a body with these settings
abbrev pub told : Next → Table → List Setting → Table
told Nothing table settings = table
told Harmless table settings = table
told Changes table settings = fold set_key table settings
told Whole table settings = fold set_key empty_table settings

pub record Body : Type 0 where
  pub kind : Next
  pub settings : List Setting

abbrev pub after_all_came : Waiting → List Body → Waiting
after_all_came = fold (λ w body. after_coming w body.kind body.settings)

abbrev pub told_all : Table → List Body → Table
told_all = fold (λ table body. told body.kind table body.settings)
