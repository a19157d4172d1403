use Rattle.std.proofs.Common.{ℕ, ◌≤◌, ◌<◌, length}
use Rattle.stab_json.specs.Values.{item_number, list_of}
use Rattle.stab_script.proofs.Entries.{ReadBefore}
use Rattle.stab_script.proofs.items.read_lists.Given as goal

-- whatever lists the tokens that are left mean, those that were read go before them
abbrev pub invariant-lists : goal.invariant-lists
invariant-lists l =
    (n : ℕ) × (length l.reader ≤ n) × (length l.reader ≤ length l.initial.reader)
    × ((depth : ℕ) → 1 < depth → ReadBefore depth (list_of item_number) (length l.initial.reader) l.initial.reader l.lists n l.reader)

abbrev pub decreases-lists : goal.decreases-lists
decreases-lists l = length l.reader
