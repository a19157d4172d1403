use Rattle.std.proofs.Common.{◌≡◌, drop}
use Rattle.stab_tree.specs.Entry.{names_of}
use Rattle.stab_tree.specs.Name.{has_same_name}
use Rattle.stab_tree.proofs.names.have_same_name.Given as goal

-- no name so far occurs again
abbrev pub invariant-loop-i : goal.invariant-loop-i
invariant-loop-i l = has_same_name (names_of l.entries) ≡ has_same_name (names_of (drop l.i l.entries))
