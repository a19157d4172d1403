use Rattle.std.proofs.Common.{◌≡◌, map, string_bytes, take}
use Rattle.stab_tree.specs.Entry.{names_of}
use Rattle.stab_tree.proofs.names.copy_names.Given as goal

-- the names so far are those of the entries so far
abbrev pub invariant-loop-entry : goal.invariant-loop-entry
invariant-loop-entry l = map string_bytes l.names.items ≡ names_of (take l.entry-index l.entries)
