use Rattle.std.proofs.Common.{◌≡◌}
use Rattle.stab_core.specs.CounterExamples.{counted_frames}
use Rattle.rignolda_make.proofs.worst.counted_frames.Given as goal

-- the frames so far
abbrev pub invariant-loop-place : goal.invariant-loop-place
invariant-loop-place l = l.frames ≡ counted_frames l.first 900 l.place
