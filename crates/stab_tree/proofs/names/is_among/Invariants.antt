use Rattle.std.proofs.Common.{◌≡◌, drop}
use Rattle.std.specs.List.{list_any}
use Rattle.std.specs.Str.{bytes_eq}
use Rattle.stab_tree.specs.Entry.{names_of}
use Rattle.stab_tree.proofs.names.is_among.Given as goal

-- no name so far is this one
abbrev pub invariant-loop-entry : goal.invariant-loop-entry
invariant-loop-entry l =
    list_any (bytes_eq l.name) (names_of l.entries) ≡ list_any (bytes_eq l.name) (names_of (drop l.entry-index l.entries))
