use Rattle.std.proofs.Common.{ℕ, ◌≤◌, ◌<◌, List, length}
use Rattle.json.specs.Token.{Token}
use Rattle.stab_script.specs.Plain.{IsInList}
use Rattle.stab_script.proofs.Entries.{ReadBefore}
use Rattle.stab_script.proofs.list.read_entries.Given as goal

-- whatever entries the tokens that are left mean, the list goes before them
abbrev pub invariant-entries : goal.invariant-entries
invariant-entries g l =
    (n : ℕ) × (length l.reader ≤ n) × (length l.reader ≤ length l.initial.reader)
    × ((depth : ℕ) → 0 < depth → ReadBefore depth g.E.Entry.meaning (length l.initial.reader) l.initial.reader l.list.items n l.reader)
    × ((rest : List Token) → IsInList g.E.Entry.form l.initial.reader rest → IsInList g.E.Entry.form l.reader rest)

abbrev pub decreases-entries : goal.decreases-entries
decreases-entries g l = length l.reader
