-- What a job says of its links: a start and a script for each, or nothing, which means clean starts
-- and empty scripts.
-- Source: this project's profile.
use Rattle.std.specs.Prelude.{ℕ, List, [], ◌∷◌, length, replicate, Bool, false, not, ◌==◌, Option}
use Rattle.std.specs.Prelude.{Some, None, Result, Ok}
use Rattle.stab_core.specs.declared.start.Start.{Start}
use Rattle.stab_core.specs.Replay.{clean_start}
use Rattle.stab_json.specs.Checks.{◌>>=◌}
use Rattle.stab_acts.specs.declared.fault.ScriptFault.{ScriptFault}
use Rattle.stab_script.specs.declared.script_entry.ScriptEntry.{ScriptEntry}
use Rattle.stab_script.specs.MadeScripts.{made}
use Rattle.stab_acts.specs.Scripts.{Acts, no_acts}

-- a list is given, and it has not one entry for each of that many links
abbrev pub are_miscounted : {X : Type 0} → ℕ → Option (List X) → Bool
are_miscounted links None = false
are_miscounted links (Some xs) = not (length xs == links)

-- the starts of that many links
abbrev pub starts_of : ℕ → Option (List Start) → List Start
starts_of links None = replicate links clean_start
starts_of links (Some starts) = starts

-- the scripts that these entries make, or the fault of the first that makes none
abbrev pub all_made : List ScriptEntry → Result (List Acts) ScriptFault
all_made [] = Ok []
all_made (entry ∷ entries) = do
  script ← made entry
  scripts ← all_made entries
  Ok (script ∷ scripts)

-- the scripts of that many links, or the fault of the first entry that makes none
abbrev pub scripts_of : ℕ → Option (List ScriptEntry) → Result (List Acts) ScriptFault
scripts_of links None = Ok (replicate links no_acts)
scripts_of links (Some entries) = all_made entries
