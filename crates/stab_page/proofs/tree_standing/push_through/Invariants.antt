use Rattle.std.proofs.Common.{◌≡◌, ◌+◌, ◌++◌, length, map, drop}
use Rattle.stab_page.specs.TreeStanding.{through}
use Rattle.stab_page.proofs.tree_standing.push_through.Given as goal

-- the origins so far, and then those that are left, are all of them
abbrev pub invariant-loop-entry : goal.invariant-loop-entry
invariant-loop-entry l =
    (l.out.items ++ map (through l.above) (drop l.entry-index l.origins) ≡ l.initial.out.items ++ map (through l.above) l.origins)
    × (length l.out.items ≡ length l.initial.out.items + l.entry-index)
