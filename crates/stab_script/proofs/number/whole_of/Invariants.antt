use Rattle.std.proofs.Common.{◌≡◌, drop}
use Rattle.std.specs.Str.Parse.{AllDigits, digits_value_after, digits_value}
use Rattle.stab_script.proofs.number.whole_of.Given as goal

-- the digits that are left, after the number so far, write the whole number
abbrev pub invariant-loop-byte : goal.invariant-loop-byte
invariant-loop-byte l =
    (digits_value_after 10 l.number (drop l.byte-index l.bytes) ≡ digits_value 10 l.bytes)
    × (AllDigits 10 (drop l.byte-index l.bytes) → AllDigits 10 l.bytes)
