use Rattle.std.proofs.Common.{◌≡◌, length}
use Rattle.stab_page.specs.TreeStanding.{opened_to}
use Rattle.stab_page.proofs.tree_standing.opened_to.Given as goal

-- the origins so far
abbrev pub invariant-loop-place : goal.invariant-loop-place
invariant-loop-place l = (l.origins.items ≡ opened_to l.node l.place) × (length l.origins.items ≡ l.place)
