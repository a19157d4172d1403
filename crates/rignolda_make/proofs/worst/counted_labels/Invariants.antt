use Rattle.std.proofs.Common.{◌≡◌}
use Rattle.std.specs.List.{range_with_len}
use Rattle.rignolda_make.proofs.worst.counted_labels.Given as goal

-- the labels so far
abbrev pub invariant-loop-label : goal.invariant-loop-label
invariant-loop-label l = l.labels ≡ range_with_len 0 l.label
