-- Made scripts: the script that an entry makes, and the script that a JSON value means.
-- Source: this project's profile.
use Rattle.std.specs.Prelude.{Bool, false, is_none, Result}
use Rattle.serde_json.specs.Data.{Data}
use Rattle.stab_json.specs.Checks.{◌>>=◌, ◌or◌, ◌refused_as◌}
use Rattle.stab_script.specs.declared.fault.PartFault.{PartFault}
use Rattle.stab_script.specs.declared.fault.PartFault.TheVariants.{Shape, Script}
use Rattle.stab_acts.specs.declared.fault.ScriptFault.{ScriptFault}
use Rattle.stab_script.specs.declared.script_entry.ScriptEntry.{ScriptEntry}
use Rattle.stab_script.specs.declared.script_entry.ScriptEntry.TheVariants.{Lists, Draw}
use Rattle.stab_acts.specs.Draws.{draw_fault, draw_script, pcg32_words}
use Rattle.stab_script.specs.ScriptEntries.{script_entry}
use Rattle.stab_acts.specs.Scripts.{Acts, acts, script_of}

-- the script of an entry, or what refuses its acts or numbers
abbrev pub made : ScriptEntry → Result Acts ScriptFault
made (Lists frames_out frames_in acks_out acks_in) =
    script_of (acts frames_out frames_in acks_out acks_in)
made (Draw state stream len loss repeat) = draw_script len loss repeat (pcg32_words state stream)

-- a draw takes memory where its numbers pass; lists are there already
abbrev pub takes_memory : ScriptEntry → Bool
takes_memory (Lists frames_out frames_in acks_out acks_in) = false
takes_memory (Draw state stream len loss repeat) = is_none (draw_fault len loss repeat)

-- the script of a value: what it says, and then what that makes
abbrev pub script : Data → Result Acts PartFault
script d = do
  entry ← script_entry d or Shape
  made entry refused_as Script
