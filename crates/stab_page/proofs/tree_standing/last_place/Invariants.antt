use Rattle.std.proofs.Common.{◌≡◌, drop}
use Rattle.stab_page.specs.TreeStanding.{last_place}
use Rattle.stab_page.proofs.tree_standing.last_place.Given as goal

-- the last place among all is the last one among those that are left, or the one so far
abbrev pub invariant-loop-entry : goal.invariant-loop-entry
invariant-loop-entry l = last_place l.last (drop l.entry-index l.origins) ≡ last_place 0 l.origins
