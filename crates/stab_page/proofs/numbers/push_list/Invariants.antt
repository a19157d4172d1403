use Rattle.std.proofs.Common.{◌≡◌, ◌+◌, ◌++◌, length, drop}
use Rattle.stab_page.proofs.numbers.push_list.Given as goal

-- the numbers so far, and then those that are left, are all of them
abbrev pub invariant-loop-item : goal.invariant-loop-item
invariant-loop-item l =
    (l.out.items ++ drop l.item-index l.items ≡ l.initial.out.items ++ l.items)
    × (length l.out.items ≡ length l.initial.out.items + l.item-index)
