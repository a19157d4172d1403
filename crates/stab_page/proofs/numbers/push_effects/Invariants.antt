use Rattle.std.proofs.Common.{◌≡◌, ◌+◌, ◌++◌, length, map, drop}
use Rattle.stab_page.specs.Report.{effect_number}
use Rattle.stab_page.proofs.numbers.push_effects.Given as goal

-- the numbers so far, and then those of the effects that are left, are all of them
abbrev pub invariant-loop-entry : goal.invariant-loop-entry
invariant-loop-entry l =
    (l.out.items ++ map effect_number (drop l.entry-index l.had) ≡ l.initial.out.items ++ map effect_number l.had)
    × (length l.out.items ≡ length l.initial.out.items + l.entry-index)
