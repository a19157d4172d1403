use Rattle.std.proofs.Common.{◌≡◌, ◌+◌, ◌≤◌, drop}
use Rattle.stab_page.specs.TreeStanding.{strays_of}
use Rattle.stab_page.proofs.tree_standing.strays_of.Given as goal

-- the strays so far, and those among what is left, are all of them
abbrev pub invariant-loop-entry : goal.invariant-loop-entry
invariant-loop-entry l =
    (l.count + strays_of l.opened (drop l.entry-index l.origins) ≡ strays_of l.opened l.origins) × (l.count ≤ l.entry-index)
