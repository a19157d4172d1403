use Rattle.std.proofs.Common.{◌≡◌, ◌++◌, None, drop}
use Rattle.rignolda_verdict.specs.LinkTexts.{frames_after}
use Rattle.rignolda_verdict.proofs.link_read.as_frames.Given as goal

-- the frames so far, and those of the numbers that remain, are those of all numbers
abbrev pub invariant-loop-number : goal.invariant-loop-number
invariant-loop-number l = l.frames ++ frames_after l.waiting (drop l.number-index l.numbers) ≡ frames_after None l.numbers
