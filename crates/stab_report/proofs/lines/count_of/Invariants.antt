use Rattle.std.proofs.Common.{◌≡◌, None, drop}
use Rattle.stab_report.proofs.Numbers.{last_number}
use Rattle.stab_report.proofs.lines.count_of.Given as goal

-- what remains gives, after the count so far, what the whole text gives
abbrev pub invariant-loop-byte : goal.invariant-loop-byte
invariant-loop-byte l = last_number (drop l.byte-index l.counts) l.count ≡ last_number l.counts None
