use Rattle.std.proofs.Common.{◌≡◌, ◌+◌, ◌++◌, length, drop}
use Rattle.stab_page.proofs.numbers.push_labels.Given as goal

-- the numbers so far, and then those that are left, are all of them
abbrev pub invariant-loop-label : goal.invariant-loop-label
invariant-loop-label l =
    (l.out.items ++ drop l.label-index l.labels ≡ l.initial.out.items ++ l.labels)
    × (length l.out.items ≡ length l.initial.out.items + l.label-index)
