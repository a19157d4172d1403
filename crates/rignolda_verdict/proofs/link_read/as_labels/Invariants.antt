use Rattle.std.proofs.Common.{◌≡◌, map, take}
use Rattle.rignolda_verdict.specs.LinkTexts.{label_or_zero}
use Rattle.rignolda_verdict.proofs.link_read.as_labels.Given as goal

-- the labels of the numbers so far
abbrev pub invariant-loop-number : goal.invariant-loop-number
invariant-loop-number l = l.labels ≡ map label_or_zero (take l.number-index l.numbers)
