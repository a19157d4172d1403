use Rattle.std.proofs.Common.{◌≡◌, ◌++◌}
use Rattle.stab_core.specs.CounterExamples.{acked_by_start}
use Rattle.rignolda_make.proofs.worst.push_acked_by_start.Given as goal

-- the rounds so far come after what was there
abbrev pub invariant-loop-round : goal.invariant-loop-round
invariant-loop-round l = l.events ≡ l.initial.events ++ acked_by_start l.first l.round
