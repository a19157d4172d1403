use Rattle.std.proofs.Common.{◌≡◌, length}
use Rattle.rignolda_explain.specs.Stops.{first_stop}
use Rattle.rignolda_explain.proofs.stop.first_stop.Given as goal

-- the findings before those that are left are of no stop
abbrev pub invariant-findings : goal.invariant-findings
invariant-findings l = first_stop l.rest ≡ first_stop l.fn.findings

abbrev pub decreases-findings : goal.decreases-findings
decreases-findings l = length l.rest
