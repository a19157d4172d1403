use Rattle.std.proofs.Common.{◌≡◌, ◌++◌, None, drop}
use Rattle.stab_report.proofs.Numbers.{numbers_after}
use Rattle.stab_report.proofs.lines.items_of.Given as goal

-- the numbers so far, and those that remain, are those of the whole line
abbrev pub invariant-loop-byte : goal.invariant-loop-byte
invariant-loop-byte l =
    l.items.items ++ numbers_after (drop l.byte-index l.line) l.number ≡ numbers_after l.line None
