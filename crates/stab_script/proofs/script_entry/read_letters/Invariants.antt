use Rattle.std.proofs.Common.{◌≡◌, drop}
use Rattle.stab_script.specs.ScriptEntries.{letters}
use Rattle.stab_json.proofs.ForCallers.{read_before}
use Rattle.stab_script.proofs.script_entry.read_letters.Given as goal

-- the acts that were read, and then those that are left, are the whole list
abbrev pub invariant-loop-letter : goal.invariant-loop-letter
invariant-loop-letter g l =
    letters g.A.Lettered.of_letter l.text
    ≡ read_before l.acts (letters g.A.Lettered.of_letter (drop l.letter-index l.text))
