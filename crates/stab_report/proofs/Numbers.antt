-- What is read of a text digit by digit, and that it is what was printed.
use Rattle.std.proofs.Common.{◌≡◌, ◌==◌, ◌||◌, ℕ, ◌+◌, ◌-◌, ◌/◌, ◌%◌, ◌^◌, ◌<◌, ◌≤◌, List, [], ◌∷◌, ◌++◌, length, Bool, true, false, Option, Some, None, decimal, codes, refl, sym, ap, ap₂, ◌∙◌, arith, append_assoc, length-append, lt-ltb, take, drop, get_or}
use Rattle.std.proofs.Math.Seq.{drop-append_seam, take-append_seam}
use Rattle.std.proofs.lemmas.Bool.{false≢true}
use Rattle.std.proofs.lemmas.Fmt.{decimal_by_steps}
use Rattle.std.proofs.lemmas.List.{append-nil, drop_all, drop_more, take_all}
use Rattle.std.specs.Char.{is_ascii_digit}
use Rattle.std.specs.List.{list_any, position, position_or_len}
use Rattle.stab_core.specs.Texts.{newline, number_entry}
use Rattle.stab_treecore.specs.Texts.{acked_entry}
use Rattle.stab_report.specs.Lines.{BeginsWithNoDigit, HasNoDigit, IsCount, IsOneLine, Shows}
use Rattle.stab_report.specs.LinesInside.{ended_item, number_after}

-- of two that are not both false
neither : (a b : Bool) → (a || b) ≡ false → (a ≡ false) × (b ≡ false)
neither true b both = absurd (false≢true (sym both))
neither false b both = (refl, both)

-- the number that a text ends with, after this one
abbrev pub last_number : List ℕ → Option ℕ → Option ℕ
last_number [] number = number
last_number (byte ∷ text) number = last_number text (number_after number byte)

-- the numbers of a text, after this one
abbrev pub numbers_after : List ℕ → Option ℕ → List ℕ
numbers_after [] number = ended_item number None
numbers_after (byte ∷ text) number = ended_item number (number_after number byte) ++ numbers_after text (number_after number byte)

-- one byte on
pub last_step : (text : List ℕ) (i : ℕ) (number : Option ℕ) → i < length text
    → last_number (drop i text) number ≡ last_number (drop (i + 1) text) (number_after number (get_or text i 0))
last_step text i number within = ap (λ xs. last_number xs number) (drop_more text i 0 within)

pub numbers_step : (text : List ℕ) (i : ℕ) (number : Option ℕ) → i < length text
    → numbers_after (drop i text) number
    ≡ ended_item number (number_after number (get_or text i 0)) ++ numbers_after (drop (i + 1) text) (number_after number (get_or text i 0))
numbers_step text i number within = ap (λ xs. numbers_after xs number) (drop_more text i 0 within)

-- a digit after a number makes the number that it belongs to
pub first_digit : (d : ℕ) → d < 10 → number_after None (48 + d) ≡ Some d
first_digit d digit =
    rw (digit_is d digit) (ap Some (omega (arith, digit)))
  where
    digit_is : (d : ℕ) → d < 10 → is_ascii_digit (48 + d) ≡ true
    digit_is d small = search (arith)

pub next_digit : (n : ℕ) → n < 2 ^ 64 → number_after (Some (n / 10)) (48 + n % 10) ≡ Some n
next_digit n small =
    rw (digit_is (n % 10) (omega arith)) (ap Some (omega (arith, small)))
  where
    digit_is : (d : ℕ) → d < 10 → is_ascii_digit (48 + d) ≡ true
    digit_is d small = search (arith)

-- the digits of a number are read as this number
pub count_read : (n : ℕ) (rest : List ℕ) → n < 2 ^ 64 → last_number (decimal n ++ rest) None ≡ last_number rest (Some n)
count_read n rest small =
    decimal_by_steps (λ m ds. (text : List ℕ) → m < 2 ^ 64 → last_number (ds ++ text) None ≡ last_number text (Some m))
    (λ m one text within. ap (last_number text) (first_digit m one))
    (λ m ds many so_far text within.
    rw (append_assoc ds ((48 + m % 10) ∷ []) text)
    (so_far ((48 + m % 10) ∷ text) (omega (arith, within)) ∙ ap (last_number text) (next_digit m within)))
    n small rest small

pub item_read : (n : ℕ) (rest : List ℕ) → n < 2 ^ 64 → numbers_after (decimal n ++ rest) None ≡ numbers_after rest (Some n)
item_read n rest small =
    decimal_by_steps (λ m ds. (text : List ℕ) → m < 2 ^ 64 → numbers_after (ds ++ text) None ≡ numbers_after text (Some m))
    (λ m one text within. rw (first_digit m one) refl)
    (λ m ds many so_far text within.
    rw (append_assoc ds ((48 + m % 10) ∷ []) text)
    (so_far ((48 + m % 10) ∷ text) (omega (arith, within)) ∙ rw (next_digit m within) refl))
    n small rest small

-- what is before a number is passed over
gap_passed : (gap rest : List ℕ) → HasNoDigit gap → numbers_after (gap ++ rest) None ≡ numbers_after rest None
gap_passed [] rest none = refl
gap_passed (byte ∷ gap) rest none =
    let parts = neither (is_ascii_digit byte) (list_any is_ascii_digit gap) none in
    rw parts.0 (gap_passed gap rest parts.1)

-- a number ends where no digit follows
number_ends : (n : ℕ) (rest : List ℕ) → n < 2 ^ 32 → BeginsWithNoDigit rest → numbers_after rest (Some n) ≡ n ∷ numbers_after rest None
number_ends n [] small ends = ap (λ m. m ∷ []) (omega (arith, small))
number_ends n (byte ∷ rest) small ends = rw ends (ap (λ m. m ∷ numbers_after rest None) (omega (arith, small)))

-- the numbers of a text are read
pub numbers_read : (text numbers : List ℕ) → Shows text numbers → numbers_after text None ≡ numbers
numbers_read text [] shows = ap (λ xs. numbers_after xs None) (sym (append-nil text)) ∙ gap_passed text [] shows
numbers_read text (n ∷ numbers) (gap, rest, is, none, ends, small, shows) =
    ap (λ xs. numbers_after xs None) is ∙ gap_passed gap (decimal n ++ rest) none ∙ item_read n rest (omega (arith, small))
    ∙ number_ends n rest small ends ∙ ap (λ ns. n ∷ ns) (numbers_read rest numbers shows)

-- after any text, a space and a number are this number, and a dash is none
count_last : (front : List ℕ) (n : ℕ) (before : Option ℕ) → n < 2 ^ 64 → last_number (front ++ number_entry n) before ≡ Some n
count_last [] n before small = ap (λ xs. last_number xs None) (sym (append-nil (decimal n))) ∙ count_read n [] small
count_last (byte ∷ front) n before small = count_last front n (number_after before byte) small

none_last : (front : List ℕ) (before : Option ℕ) → last_number (front ++ codes " -") before ≡ None
none_last [] before = refl
none_last (byte ∷ front) before = none_last front (number_after before byte)

-- a count is what is printed at the end
pub acked_last : (front : List ℕ) (acked : Option ℕ) → IsCount acked → last_number (front ++ acked_entry acked) None ≡ acked
acked_last front None small = none_last front None
acked_last front (Some n) small = count_last front n None small

-- the first newline is at the end of the first line
first_newline : (line rest : List ℕ) → IsOneLine line → position_or_len (λ byte. byte == 10) (line ++ 10 ∷ rest) ≡ length line
first_newline [] rest one = refl
first_newline (byte ∷ line) rest one =
    let parts = neither (byte == 10) (list_any (λ byte. byte == 10) line) one in
    rw parts.0 (ap (λ k. 1 + k) (first_newline line rest parts.1) ∙ omega arith)

pub newline_there : (text line rest : List ℕ) → IsOneLine line → text ≡ line ++ newline ++ rest
    → position (λ byte. byte == 10) text ≡ Some (length line)
newline_there text line rest one is =
    let is_so : text ≡ line ++ 10 ∷ rest = is ∙ append_assoc line newline rest in
    let within : length line < length (line ++ 10 ∷ rest) = rw (length-append line (10 ∷ rest)) (omega arith) in
    rw (is_so, first_newline line rest one, lt-ltb (length line) (length (line ++ 10 ∷ rest)) within) refl

-- what a line is cut into at the end of its first line
pub cut_there : (text line rest front back : List ℕ) (end : ℕ) → end ≡ length line → text ≡ line ++ newline ++ rest
    → front ≡ take end text → back ≡ drop end text → (front ≡ line) × (take (length back - 1) (drop 1 back) ≡ rest)
cut_there text line rest front back end ends is front_is back_is =
    let is_so : text ≡ line ++ 10 ∷ rest = is ∙ append_assoc line newline rest in
    let back_so : back ≡ 10 ∷ rest = back_is ∙ ap₂ (λ k xs. drop k xs) ends is_so ∙ drop-append_seam line (10 ∷ rest) in (
      front_is ∙ ap₂ (λ k xs. take k xs) ends is_so ∙ take-append_seam line (10 ∷ rest),
      ap (λ xs. take (length xs - 1) (drop 1 xs)) back_so ∙ all_but_first rest,
    )
  where
    all_but_first : (xs : List ℕ) → take (length (10 ∷ xs) - 1) (drop 1 (10 ∷ xs)) ≡ xs
    all_but_first xs = take_all (length (10 ∷ xs) - 1) xs (omega arith)

-- at the end of a text nothing remains
pub count_at_end : (text : List ℕ) (i : ℕ) (count : Option ℕ) → length text ≤ i → last_number (drop i text) count ≡ last_number text None
    → count ≡ last_number text None
count_at_end text i count ends so_far = sym (ap (λ xs. last_number xs count) (drop_all i text ends)) ∙ so_far

pub items_at_end : (text items : List ℕ) (i : ℕ) (number : Option ℕ) → length text ≤ i
    → items ++ numbers_after (drop i text) number ≡ numbers_after text None → items ++ ended_item number None ≡ numbers_after text None
items_at_end text items i number ends so_far = sym (ap (λ xs. items ++ numbers_after xs number) (drop_all i text ends)) ∙ so_far
