use Rattle.std.proofs.Common.{◌≡◌, ◌≤◌}
use Rattle.stab_page.specs.Standing.{missing_of}
use Rattle.stab_page.proofs.standing.missing_of.Given as goal

-- those among the items so far
abbrev pub invariant-loop-place : goal.invariant-loop-place
invariant-loop-place l = (l.count ≡ missing_of l.place l.origins) × (l.count ≤ l.place)
