use Rattle.std.proofs.Common.{◌≡◌, drop}
use Rattle.std.specs.List.{list_all}
use Rattle.stab_tree.specs.Name.{is_name}
use Rattle.stab_tree.specs.Entry.{names_of}
use Rattle.stab_tree.proofs.names.have_lawful_names.Given as goal

-- each name so far is lawful
abbrev pub invariant-loop-entry : goal.invariant-loop-entry
invariant-loop-entry l = list_all is_name (names_of l.entries) ≡ list_all is_name (names_of (drop l.entry-index l.entries))
