use Rattle.std.proofs.Common.{◌≤◌}
use Rattle.stab_report.proofs.read.line_of_difference.Given as goal

-- lines are counted from 1
abbrev pub invariant-loop-place : goal.invariant-loop-place
invariant-loop-place l = 1 ≤ l.line
