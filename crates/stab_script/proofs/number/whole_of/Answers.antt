use Rattle.std.proofs.Common.{◌≡◌, ◌*◌, ◌<◌, ◌≤◌, ◌^◌, get_or, length, sym, ap, ◌∙◌, subst, arith}
use Rattle.std.specs.Char.{digit_value}
use Rattle.std.proofs.lemmas.Str.Parse.{digit_from_value}
use Rattle.std.specs.Str.Parse.{AllDigits, digits_value}
use Rattle.serde_json.specs.Read.{number_of}
use Rattle.stab_script.proofs.Numbers.{all_read, digit_at, tenth_before}
use Rattle.stab_script.proofs.number.whole_of.Goals as goal

pub returns-clause-value : goal.returns-clause-value
returns-clause-value c =
    let l = c.loop-byte in
    let bytes = c.as_bytes-bytes.result.now in
    let some : 0 < length bytes = grind arith in
    let over : length bytes ≤ l.byte-index = grind arith in
    let fits : l.number < 2 ^ 64 = grind arith in
    ap number_of (sym c.as_bytes-bytes.ensures.value) ∙ all_read bytes l.byte-index l.number some over l.invariant.0 l.invariant.1 fits

pub returns-then-not-is_ascii_digit-clause-plain : goal.returns-then-not-is_ascii_digit-clause-plain
returns-then-not-is_ascii_digit-clause-plain c =
    let l = c.loop-byte in
    let bytes = c.as_bytes-bytes.result.now in
    let within : l.byte-index < length bytes = grind arith in
    λ numeral few.
    let all : AllDigits 10 bytes = subst (AllDigits 10) (sym c.as_bytes-bytes.ensures.value) numeral.1 in
    let small : digits_value 10 bytes ≤ 4294967295 = subst (λ s. digits_value 10 s ≤ 4294967295) (sym c.as_bytes-bytes.ensures.value) few in
    let digit : digit_value (get_or bytes l.byte-index 0) < 10 = digit_at bytes l.byte-index within all in
    let tenth : l.number * 10 ≤ digits_value 10 bytes = tenth_before bytes l.byte-index l.number within l.invariant.0 in
    let bounds = digit_from_value (get_or bytes l.byte-index 0) digit in
    absurd (grind (arith, bounds, tenth, small))
