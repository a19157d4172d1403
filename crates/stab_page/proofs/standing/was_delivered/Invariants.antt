use Rattle.std.proofs.Common.{◌≡◌, drop}
use Rattle.stab_page.specs.Standing.{was_delivered}
use Rattle.stab_page.proofs.standing.was_delivered.Given as goal

-- it is not among the origins so far
abbrev pub invariant-loop-entry : goal.invariant-loop-entry
invariant-loop-entry l = was_delivered l.fn.place (drop l.entry-index l.origins) ≡ was_delivered l.fn.place l.origins
