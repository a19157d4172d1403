-- Whole numbers in digits.
use Rattle.std.proofs.Common.{◌≡◌, ℕ, zero, suc, ◌+◌, ◌*◌, ◌-◌, ◌<◌, ◌≤◌, ◌^◌, List, [], ◌∷◌, ◌++◌, length, get_or, drop, false, Some, refl, sym, ap, ◌∙◌, append-nil, ne_eqb, lt-ltb, drop-cons, arith}
use Rattle.std.specs.Char.{digit_value}
use Rattle.std.specs.Str.Parse.{AllDigits, digits_value_after, digits_value}
use Rattle.std.proofs.lemmas.List.{drop_all}
use Rattle.std.proofs.lemmas.Str.Parse.{digit_from_value}
use Rattle.std.proofs.lemmas.Float.Parse.{scan_numeral-text_of}
use Rattle.std.specs.Float.Numeral.{Parts, scan_numeral, IsWellFormed}
use Rattle.serde_json.specs.Data.{unsigned}
use Rattle.serde_json.specs.Read.{number_of, number_from}

-- the value of a digit
pub digit_is : (c : ℕ) → digit_value c < 10 → digit_value c ≡ c - 48
digit_is c few = let digit = digit_from_value c few in grind (arith, digit)

no_minus : (s : List ℕ) → 0 < length s → AllDigits 10 s → get_or s 0 0 ≡ 45 → ⊥
no_minus [] some all is = omega (arith, some)
no_minus (c ∷ s) some all is = omega (arith, digit_from_value c all.0, is)

-- a text of digits alone is the number that they write
pub digits_read : (s : List ℕ) → 0 < length s → AllDigits 10 s → digits_value 10 s < 2 ^ 64 → number_of s ≡ Some (unsigned (digits_value 10 s))
unfolding number_of
digits_read s some all fits =
    let parts : Parts = record { whole = s; point = false; fraction = []; exponent_negative = false; exponent = []; len = length (s ++ []) } in
    let formed : IsWellFormed parts = record { whole_digits = all; fraction_digits = tt; exponent_digits = tt; no_point = λ _. refl; no_exponent = λ _. refl; len_is = refl } in
    let scanned : scan_numeral s ≡ parts = ap scan_numeral (sym (append-nil s)) ∙ scan_numeral-text_of parts formed in
    rw (ne_eqb (get_or s 0 0) 45 (no_minus s some all))
    (ap (number_from false) scanned ∙ rw (lt-ltb 0 (length s) some, append-nil s) (rw (lt-ltb (digits_value 10 s) (2 ^ 64) fits) refl))

-- once no digit is left, the number so far is what the text writes
pub all_read : (s : List ℕ) (i n : ℕ) → 0 < length s → length s ≤ i → digits_value_after 10 n (drop i s) ≡ digits_value 10 s → (AllDigits 10 (drop i s) → AllDigits 10 s) → n < 2 ^ 64
    → number_of s ≡ Some (unsigned n)
all_read s i n some over writes all fits =
    let left : drop i s ≡ [] = drop_all i s over in
    let is : n ≡ digits_value 10 s = rw left at writes in
    rw is (digits_read s some ((rw left at all) tt) (rw (← is) fits))

-- digits more only make a number larger
le_value_after : (n : ℕ) (s : List ℕ) → n ≤ digits_value_after 10 n s
le_value_after n [] = omega arith
le_value_after n (c ∷ s) = omega (arith, le_value_after (n * 10 + digit_value c) s)

-- in a text of digits alone each byte is a digit
pub digit_at : (s : List ℕ) (i : ℕ) → i < length s → AllDigits 10 s → digit_value (get_or s i 0) < 10
digit_at [] i within all = absurd (omega (arith, within))
digit_at (c ∷ s) zero within all = all.0
digit_at (c ∷ s) (suc i) within all = digit_at s i (omega (arith, within)) all.1

-- before a further digit the number so far is no more than a tenth of what all of them write
pub tenth_before : (s : List ℕ) (i n : ℕ) → i < length s → digits_value_after 10 n (drop i s) ≡ digits_value 10 s → n * 10 ≤ digits_value 10 s
tenth_before s i n within writes =
    let more : digits_value_after 10 n (get_or s i 0 ∷ drop (suc i) s) ≡ digits_value 10 s = rw (drop-cons s i 0 within) at writes in
    omega (arith, more, le_value_after (n * 10 + digit_value (get_or s i 0)) (drop (suc i) s))

-- once no digit is left, the number so far is that of the text
pub whole_read : (s : List ℕ) (i n : ℕ) → length s ≤ i → digits_value_after 10 n (drop i s) ≡ digits_value 10 s → n ≡ digits_value 10 s
whole_read s i n over writes = rw (drop_all i s over) at writes
