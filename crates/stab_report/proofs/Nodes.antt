-- The lines of a node are single lines, which show its numbers; and what is read of all nodes is the report.
use Rattle.std.proofs.Common.{◌≡◌, ◌==◌, ◌&&◌, ℕ, zero, suc, ◌+◌, ◌/◌, ◌%◌, ◌^◌, ◌<◌, List, [], ◌∷◌, ◌++◌, length, map, get_or, Bool, true, false, Option, Some, None, decimal, codes, refl, sym, ap, ◌∙◌, subst, arith, append_assoc, inl, inr}
use Rattle.std.proofs.lemmas.Bool.{false≢true}
use Rattle.std.proofs.lemmas.Bool.Decides.{eqb_tells}
use Rattle.std.proofs.lemmas.List.{append-nil, ext_get_or}
use Rattle.std.proofs.lemmas.List.Elements.{All-head, All-tail}
use Rattle.std.proofs.lemmas.List.Folds.{list_any-append}
use Rattle.std.proofs.lemmas.List.FromFn.{get_or-map-range_with_len, length-map-range_with_len}
use Rattle.std.specs.Char.{is_ascii_digit}
use Rattle.std.specs.Fmt.{digit_glyph, digits, digits_onto}
use Rattle.std.specs.List.{flat_map, list_all, list_any, range_with_len}
use Rattle.stab_core.proofs.Growing.{of_both}
use Rattle.stab_core.specs.Texts.{newline, number_entry, numbers_line}
use Rattle.stab_tree.specs.Name.{is_name_byte}
use Rattle.stab_treecore.specs.Texts.{acked_entry, node_counts}
use Rattle.stab_report.specs.Lines.{AreItems, BeginsWithNoDigit, HasNoDigit, IsOneLine, Shows}
use Rattle.stab_report.specs.Texts.{end_entry, node_lines}

-- two texts without a newline
pub one_line_both : (xs ys : List ℕ) → IsOneLine xs → IsOneLine ys → IsOneLine (xs ++ ys)
one_line_both xs ys first second = list_any-append (λ byte. byte == 10) xs ys ∙ rw (first, second) refl

-- a byte that is large is no newline
large_byte : (byte : ℕ) → 10 < byte → (byte == 10) ≡ false
large_byte byte large = elim (eqb_tells byte 10) [
  | inl same ↦ absurd (omega (arith, large, same.1))
  | inr other ↦ other.0
]

-- digits are none
one_line_digits : (k n : ℕ) (acc : List ℕ) → IsOneLine acc → IsOneLine (digits_onto k 10 false n acc)
one_line_digits zero n acc one = one
one_line_digits (suc k) n acc one =
    let glyph : (digit_glyph false (n % 10) == 10) ≡ false =
    of_both (λ byte. (byte == 10) ≡ false) _ (48 + n % 10) (87 + n % 10) (large_byte (48 + n % 10) (omega arith))
    (large_byte (87 + n % 10) (omega arith)) in
    let more : IsOneLine (digit_glyph false (n % 10) ∷ acc) = rw (glyph, one) refl in
    of_both IsOneLine _ (digit_glyph false (n % 10) ∷ acc) (digits_onto k 10 false (n / 10) (digit_glyph false (n % 10) ∷ acc)) more
    (one_line_digits k (n / 10) (digit_glyph false (n % 10) ∷ acc) more)

pub one_line_decimal : (n : ℕ) → IsOneLine (decimal n)
unfolding digits
one_line_decimal n = one_line_digits 64 n [] refl

one_line_entry : (n : ℕ) → IsOneLine (number_entry n)
one_line_entry n = one_line_both (codes " ") (decimal n) refl (one_line_decimal n)

-- nor are the bytes of a name
name_byte : (byte : ℕ) → is_name_byte byte ≡ true → (byte == 10) ≡ false
name_byte byte lawful = elim (eqb_tells byte 10) [
  | inl same ↦ let never : false ≡ true = subst (λ b. is_name_byte b ≡ true) same.1 lawful in absurd (false≢true never)
  | inr other ↦ other.0
]

pub both_true : (a b : Bool) → (a && b) ≡ true → (a ≡ true) × (b ≡ true)
both_true true b are = (refl, are)
both_true false b are = absurd (false≢true are)

pub one_line_name : (name : List ℕ) → list_all is_name_byte name ≡ true → IsOneLine name
one_line_name [] lawful = refl
one_line_name (byte ∷ name) lawful =
    let parts = both_true (is_name_byte byte) (list_all is_name_byte name) lawful in
    rw (name_byte byte parts.0) (one_line_name name parts.1)

-- a node's first line
one_line_acked : (acked : Option ℕ) → IsOneLine (acked_entry acked)
one_line_acked None = refl
one_line_acked (Some n) = one_line_entry n

one_line_end : (end : Option Bool) → IsOneLine (end_entry end)
unfolding end_entry
one_line_end None = refl
one_line_end (Some true) = refl
one_line_end (Some false) = refl

-- what is before its count
abbrev pub before_acked : List ℕ → ℕ → ℕ → List ℕ
before_acked name depth count = name ++ codes " depth" ++ number_entry depth ++ codes " received" ++ number_entry count ++ codes " acked"

one_line_before : (name : List ℕ) (depth count : ℕ) → IsOneLine name → IsOneLine (before_acked name depth count)
one_line_before name depth count one =
    let first = one_line_both name (codes " depth") one refl in
    let second = one_line_both (name ++ codes " depth") (number_entry depth) first (one_line_entry depth) in
    let third = one_line_both (name ++ codes " depth" ++ number_entry depth) (codes " received") second refl in
    let fourth = one_line_both (name ++ codes " depth" ++ number_entry depth ++ codes " received") (number_entry count) third (one_line_entry count) in
    one_line_both (name ++ codes " depth" ++ number_entry depth ++ codes " received" ++ number_entry count) (codes " acked") fourth refl

pub one_line_first : (name : List ℕ) (depth count : ℕ) (acked : Option ℕ) (end : Option Bool) → IsOneLine name
    → IsOneLine (before_acked name depth count ++ acked_entry acked ++ end_entry end)
one_line_first name depth count acked end one =
    one_line_both (before_acked name depth count ++ acked_entry acked) (end_entry end)
    (one_line_both (before_acked name depth count) (acked_entry acked) (one_line_before name depth count one) (one_line_acked acked))
    (one_line_end end)

-- a line of numbers, without its newline
one_line_numbers : (numbers : List ℕ) → IsOneLine (flat_map number_entry numbers)
one_line_numbers [] = refl
one_line_numbers (n ∷ numbers) = one_line_both (number_entry n) (flat_map number_entry numbers) (one_line_entry n) (one_line_numbers numbers)

pub one_line_items : (label numbers : List ℕ) → IsOneLine label → IsOneLine (label ++ flat_map number_entry numbers)
one_line_items label numbers one = one_line_both label (flat_map number_entry numbers) one (one_line_numbers numbers)

-- it shows its numbers
spaced : (numbers : List ℕ) → BeginsWithNoDigit (flat_map number_entry numbers)
spaced [] = tt
spaced (n ∷ numbers) = refl

pub shows_items : (label numbers : List ℕ) → HasNoDigit label → AreItems numbers → Shows (label ++ flat_map number_entry numbers) numbers
shows_items label [] none small = ap (list_any is_ascii_digit) (append-nil label) ∙ none
shows_items label (n ∷ numbers) none small = (
  label ++ codes " ",
  flat_map number_entry numbers,
  sym (append_assoc label (codes " ") (decimal n ++ flat_map number_entry numbers)),
  list_any-append is_ascii_digit label (codes " ") ∙ rw none refl,
  spaced numbers,
  All-head (λ item. item < 2 ^ 32) n numbers small,
  shows_items [] numbers refl (All-tail (λ item. item < 2 ^ 32) n numbers small),
)

-- the lines of a node, and a text after them, are two lines and that text
pub first_cut : (name : List ℕ) (depth : ℕ) (received : List ℕ) (acked : Option ℕ) (end : Option Bool) (text rest : List ℕ)
    → text ≡ node_lines name depth received acked end ++ rest
    → text ≡ before_acked name depth (length received) ++ acked_entry acked ++ end_entry end ++ newline ++ (numbers_line (codes "items:") received ++ rest)
unfolding node_counts node_lines
first_cut name depth received acked end text rest is =
    is ∙ append_assoc (before_acked name depth (length received) ++ acked_entry acked ++ end_entry end ++ newline)
    (numbers_line (codes "items:") received) rest

pub second_cut : (received text rest : List ℕ) → text ≡ numbers_line (codes "items:") received ++ rest
    → text ≡ codes "items:" ++ flat_map number_entry received ++ newline ++ rest
unfolding numbers_line
second_cut received text rest is = is

-- what there is at each place of a list is the list
pub at_places : {A : Type 0} (d : A) (xs : List A) (n : ℕ) → length xs ≡ n → map (λ place. get_or xs place d) (range_with_len 0 n) ≡ xs
at_places d xs n as_many =
    ext_get_or d (map (λ place. get_or xs place d) (range_with_len 0 n)) xs
    (length-map-range_with_len (λ place. get_or xs place d) 0 n ∙ sym as_many)
    (λ i within.
    get_or-map-range_with_len (λ place. get_or xs place d) 0 n i i d
    (subst (λ k. i < k) (length-map-range_with_len (λ place. get_or xs place d) 0 n) within) (omega arith))
