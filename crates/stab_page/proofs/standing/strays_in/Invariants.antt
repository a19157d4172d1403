use Rattle.std.proofs.Common.{◌≡◌, ◌+◌, ◌≤◌, drop}
use Rattle.stab_page.specs.Standing.{strays_in}
use Rattle.stab_page.proofs.standing.strays_in.Given as goal

-- the strays so far, and those among what is left, are all of them
abbrev pub invariant-loop-entry : goal.invariant-loop-entry
invariant-loop-entry l =
    (l.count + strays_in (drop l.entry-index l.origins) ≡ strays_in l.origins) × (l.count ≤ l.entry-index)
