use Rattle.std.proofs.Common.{◌≡◌, ◌++◌, map, string_bytes, option_map, drop}
use Rattle.stab_tree.specs.Parents.{parents_of}
use Rattle.stab_tree.proofs.parents.find_parents.Given as goal

-- the parents so far, and then those of the entries that remain, are those of all
abbrev pub invariant-loop-entry : goal.invariant-loop-entry
invariant-loop-entry l =
    parents_of (map string_bytes l.names) l.entries ≡ option_map (λ rest. l.parents.items ++ rest) (parents_of (map string_bytes l.names) (drop l.entry-index l.entries))
