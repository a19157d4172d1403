use Rattle.std.proofs.Common.{◌≡◌, ◌++◌, length, drop}
use Rattle.stab_page.proofs.link.copied.Given as goal

-- the labels so far, and then those that are left, are all of them
abbrev pub invariant-loop-label : goal.invariant-loop-label
invariant-loop-label l =
    (l.labels.items ++ drop l.label-index l.acks ≡ l.acks) × (length l.labels.items ≡ l.label-index)
