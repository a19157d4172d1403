-- The sum of bytes, some at a time: a sum is linear, and eight bits that come out leave those above.
use Rattle.std.proofs.Common.{◌≡◌, ℕ, zero, suc, ◌+◌, ◌*◌, ◌/◌, ◌%◌, ◌^◌, ◌<◌, ◌≤◌, Bool, true, false, List, [], ◌∷◌, length, drop, take, refl, sym, ap, ◌∙◌, arith, bit_xor}
use Rattle.std.specs.Prelude.{◌==◌, if◌then◌else◌, fold, slice_index}
use Rattle.std.specs.Int.{w32, from_le_bytes}
use lib.Bits.{xor_zero_r, xor_comm, xor_assoc, xor_shr, xor_mod, xor_shifted}
use Rattle.rignolda_agent.specs.Checksum.{after_bit, after_bits, with_byte}
use Rattle.rignolda_agent.specs.Seen.{AreBytes}
use Rattle.rignolda_agent.specs.Sums.{after_zeros, little}

-- ---- linear

swap_middle : (a b c d : ℕ) → bit_xor (bit_xor a b) (bit_xor c d) ≡ bit_xor (bit_xor a c) (bit_xor b d)
swap_middle a b c d =
    xor_assoc a b (bit_xor c d)
    ∙ ap (bit_xor a) (sym (xor_assoc b c d) ∙ ap (λ x. bit_xor x d) (xor_comm b c) ∙ xor_assoc c b d)
    ∙ sym (xor_assoc a c (bit_xor b d))

-- what goes in for the bit that comes out
abbrev goes_in : ℕ → ℕ
goes_in bit = if bit == 1 then 3988292384 else 0

by_goes_in : (sum : ℕ) → after_bit sum ≡ bit_xor (sum / 2) (goes_in (sum % 2))
by_goes_in sum = chosen (sum % 2 == 1)
  where
    chosen : (b : Bool) → (if b then bit_xor (sum / 2) 3988292384 else sum / 2) ≡ bit_xor (sum / 2) (if b then 3988292384 else 0)
    chosen true = refl
    chosen false = sym (xor_zero_r (sum / 2))

goes_in_both : (a b : ℕ) → a < 2 → b < 2 → goes_in (bit_xor a b) ≡ bit_xor (goes_in a) (goes_in b)
goes_in_both zero zero low_a low_b = refl
goes_in_both zero (suc zero) low_a low_b = refl
goes_in_both (suc zero) zero low_a low_b = refl
goes_in_both (suc zero) (suc zero) low_a low_b = refl
goes_in_both (suc (suc a)) b low_a low_b = absurd (omega (arith, low_a))
goes_in_both zero (suc (suc b)) low_a low_b = absurd (omega (arith, low_b))
goes_in_both (suc zero) (suc (suc b)) low_a low_b = absurd (omega (arith, low_b))

bit_linear : (a b : ℕ) → after_bit (bit_xor a b) ≡ bit_xor (after_bit a) (after_bit b)
bit_linear a b =
    by_goes_in (bit_xor a b)
    ∙ ap (λ half. bit_xor half (goes_in (bit_xor a b % 2))) (xor_shr a b 1)
    ∙ ap (λ bit. bit_xor (bit_xor (a / 2) (b / 2)) (goes_in bit)) (xor_mod a b 1)
    ∙ ap (bit_xor (bit_xor (a / 2) (b / 2))) (goes_in_both (a % 2) (b % 2) (omega arith) (omega arith))
    ∙ swap_middle (a / 2) (b / 2) (goes_in (a % 2)) (goes_in (b % 2))
    ∙ ap (λ x. bit_xor x (bit_xor (b / 2) (goes_in (b % 2)))) (sym (by_goes_in a))
    ∙ ap (bit_xor (after_bit a)) (sym (by_goes_in b))

bits_linear : (n a b : ℕ) → after_bits n (bit_xor a b) ≡ bit_xor (after_bits n a) (after_bits n b)
bits_linear zero a b = refl
bits_linear (suc n) a b = ap (after_bits n) (bit_linear a b) ∙ bits_linear n (after_bit a) (after_bit b)

-- ---- bytes that come out

even_bit : (half : ℕ) → after_bit (2 * half) ≡ half
even_bit half =
    let even : 2 * half % 2 ≡ 0 = omega arith in
    let is_half : 2 * half / 2 ≡ half = omega arith in
    ap (λ bit. if bit == 1 then bit_xor (2 * half / 2) 3988292384 else 2 * half / 2) even ∙ is_half

eight_zeros : (high : ℕ) → after_bits 8 (high * 256) ≡ high
eight_zeros high =
    let whole : high * 256 ≡ 2 * (2 * (2 * (2 * (2 * (2 * (2 * (2 * high))))))) = omega arith in
    ap (after_bits 8) whole
    ∙ ap (after_bits 7) (even_bit (2 * (2 * (2 * (2 * (2 * (2 * (2 * high))))))))
    ∙ ap (after_bits 6) (even_bit (2 * (2 * (2 * (2 * (2 * (2 * high)))))))
    ∙ ap (after_bits 5) (even_bit (2 * (2 * (2 * (2 * (2 * high))))))
    ∙ ap (after_bits 4) (even_bit (2 * (2 * (2 * (2 * high)))))
    ∙ ap (after_bits 3) (even_bit (2 * (2 * (2 * high))))
    ∙ ap (after_bits 2) (even_bit (2 * (2 * high)))
    ∙ ap (after_bits 1) (even_bit (2 * high))
    ∙ even_bit high

zeros_linear : (n a b : ℕ) → after_zeros n (bit_xor a b) ≡ bit_xor (after_zeros n a) (after_zeros n b)
zeros_linear zero a b = refl
zeros_linear (suc n) a b = ap (after_zeros n) (bits_linear 8 a b) ∙ zeros_linear n (after_bits 8 a) (after_bits 8 b)

-- a number is its low byte and those above it
apart : (x : ℕ) → x ≡ bit_xor (x / 256 * 256) (x % 256)
apart x = let both : x ≡ x / 256 * 256 + x % 256 = omega arith in both ∙ sym (xor_shifted (x / 256) 8 (x % 256) (omega arith))

pub one_byte_less : (n x : ℕ) → after_zeros (suc n) x ≡ bit_xor (after_zeros (suc n) (x % 256)) (after_zeros n (x / 256))
one_byte_less n x =
    ap (after_zeros (suc n)) (apart x)
    ∙ zeros_linear (suc n) (x / 256 * 256) (x % 256)
    ∙ ap (λ high. bit_xor (after_zeros n high) (after_zeros (suc n) (x % 256))) (eight_zeros (x / 256))
    ∙ xor_comm (after_zeros n (x / 256)) (after_zeros (suc n) (x % 256))

-- ---- several bytes at once

abbrev AllBytes : List ℕ → Type 0
AllBytes [] = Unit {0}
AllBytes (b ∷ bytes) = (b < 256) × AllBytes bytes

pub at_once : (sum : ℕ) (bytes : List ℕ) → AllBytes bytes → fold with_byte sum bytes ≡ after_zeros (length bytes) (bit_xor sum (little bytes))
unfolding with_byte
at_once sum [] low = sym (xor_zero_r sum)
at_once sum (b ∷ bytes) low =
    at_once (after_bits 8 (bit_xor sum b)) bytes low.1
    ∙ ap (λ high. after_zeros (length bytes) (bit_xor (after_bits 8 (bit_xor sum b)) high)) (sym (eight_zeros (little bytes)))
    ∙ ap (after_zeros (length bytes)) (sym (bits_linear 8 (bit_xor sum b) (little bytes * 256)))
    ∙ ap (λ x. after_zeros (length bytes) (after_bits 8 x)) (
    xor_assoc sum b (little bytes * 256)
    ∙ ap (bit_xor sum) (xor_comm b (little bytes * 256) ∙ xor_shifted (little bytes) 8 b low.0)
    )

-- what one byte makes of a sum
pub one_byte : (sum byte : ℕ) → byte < 256 → with_byte sum byte ≡ bit_xor (after_zeros 1 (bit_xor sum byte % 256)) (sum / 256)
unfolding with_byte
one_byte sum byte low =
    one_byte_less 0 (bit_xor sum byte)
    ∙ ap (bit_xor (after_zeros 1 (bit_xor sum byte % 256))) (
    xor_shr sum byte 8
    ∙ let above : byte / 2 ^ 8 ≡ 0 = omega arith in ap (bit_xor (sum / 2 ^ 8)) above
    ∙ xor_zero_r (sum / 256)
    )

-- the sum of a word of four bytes, byte by byte
by_four : (n word : ℕ) → after_zeros n 0 ≡ 0 → word < 2 ^ 32
    → bit_xor
    (bit_xor (after_zeros (suc (suc (suc (suc n)))) (word % 256)) (after_zeros (suc (suc (suc n))) (word / 256 % 256)))
    (bit_xor (after_zeros (suc (suc n)) (word / 65536 % 256)) (after_zeros (suc n) (word / 16777216 % 256)))
    ≡ after_zeros (suc (suc (suc (suc n)))) word
by_four n word none low =
    let first : ℕ = after_zeros (suc (suc (suc (suc n)))) (word % 256) in
    let second : ℕ = after_zeros (suc (suc (suc n))) (word / 256 % 256) in
    let third : ℕ = after_zeros (suc (suc n)) (word / 65536 % 256) in
    let last : ℕ = after_zeros (suc n) (word / 16777216 % 256) in
    sym (
    one_byte_less (suc (suc (suc n))) word
    ∙ ap (bit_xor first) (one_byte_less (suc (suc n)) (word / 256))
    ∙ ap (λ x. bit_xor first (bit_xor second (after_zeros (suc (suc n)) x))) (let same : word / 256 / 256 ≡ word / 65536 = omega arith in same)
    ∙ ap (λ x. bit_xor first (bit_xor second x)) (one_byte_less (suc n) (word / 65536))
    ∙ ap (λ x. bit_xor first (bit_xor second (bit_xor third (after_zeros (suc n) x)))) (let same : word / 65536 / 256 ≡ word / 16777216 = omega arith in same)
    ∙ ap (λ x. bit_xor first (bit_xor second (bit_xor third x))) (one_byte_less n (word / 16777216))
    ∙ ap (λ x. bit_xor first (bit_xor second (bit_xor third (bit_xor last (after_zeros n x))))) (let none_left : word / 16777216 / 256 ≡ 0 = omega (arith, low) in none_left)
    ∙ ap (λ x. bit_xor first (bit_xor second (bit_xor third (bit_xor last x)))) none
    ∙ ap (λ x. bit_xor first (bit_xor second (bit_xor third x))) (xor_zero_r last)
    ∙ sym (xor_assoc first second (bit_xor third last))
    )

pub four_more : (word : ℕ) → word < 2 ^ 32
    → bit_xor
    (bit_xor (after_zeros 4 (word % 256)) (after_zeros 3 (word / 256 % 256)))
    (bit_xor (after_zeros 2 (word / 65536 % 256)) (after_zeros 1 (word / 16777216 % 256)))
    ≡ after_zeros 4 word
four_more word low = by_four 0 word refl low

pub eight_more_zeros : (word : ℕ) → word < 2 ^ 32
    → bit_xor
    (bit_xor (after_zeros 8 (word % 256)) (after_zeros 7 (word / 256 % 256)))
    (bit_xor (after_zeros 6 (word / 65536 % 256)) (after_zeros 5 (word / 16777216 % 256)))
    ≡ after_zeros 8 word
eight_more_zeros word low = by_four 4 word refl low

pub twelve_more_zeros : (word : ℕ) → word < 2 ^ 32
    → bit_xor
    (bit_xor (after_zeros 12 (word % 256)) (after_zeros 11 (word / 256 % 256)))
    (bit_xor (after_zeros 10 (word / 65536 % 256)) (after_zeros 9 (word / 16777216 % 256)))
    ≡ after_zeros 12 word
twelve_more_zeros word low = by_four 8 word refl low

pub sixteen_more_zeros : (word : ℕ) → word < 2 ^ 32
    → bit_xor
    (bit_xor (after_zeros 16 (word % 256)) (after_zeros 15 (word / 256 % 256)))
    (bit_xor (after_zeros 14 (word / 65536 % 256)) (after_zeros 13 (word / 16777216 % 256)))
    ≡ after_zeros 16 word
sixteen_more_zeros word low = by_four 12 word refl low

-- ---- sixteen bytes

all_bytes : (bytes : List ℕ) → AreBytes bytes → AllBytes bytes
all_bytes [] are = tt
all_bytes (b ∷ bytes) are = (are 0, all_bytes bytes (λ i. are (suc i)))

from_place : (bytes : List ℕ) (i : ℕ) → little (drop i bytes) ≡ little (drop (suc i) bytes) * 256 + slice_index bytes i
from_place [] zero = refl
from_place [] (suc i) = refl
from_place (b ∷ bytes) zero = refl
from_place (b ∷ bytes) (suc i) = from_place bytes i

nothing_past : (bytes : List ℕ) (i : ℕ) → length bytes ≤ i → little (drop i bytes) ≡ 0
nothing_past [] zero past = refl
nothing_past [] (suc i) past = refl
nothing_past (b ∷ bytes) zero past = absurd (omega (arith, past))
nothing_past (b ∷ bytes) (suc i) past = nothing_past bytes i (omega (arith, past))

-- four bytes more are as many zeros less
four_zeros : (n high : ℕ) → after_zeros (suc (suc (suc (suc n)))) (high * 2 ^ 32) ≡ after_zeros n high
four_zeros n high =
    let whole : high * 2 ^ 32 ≡ high * 256 * 256 * 256 * 256 = omega arith in
    ap (after_zeros (suc (suc (suc (suc n))))) whole
    ∙ ap (after_zeros (suc (suc (suc n)))) (eight_zeros (high * 256 * 256 * 256))
    ∙ ap (after_zeros (suc (suc n))) (eight_zeros (high * 256 * 256))
    ∙ ap (after_zeros (suc n)) (eight_zeros (high * 256))
    ∙ ap (after_zeros n) (eight_zeros high)

-- the low word apart from what is above it
word_apart : (n sum high low : ℕ) → low < 2 ^ 32
    → after_zeros (suc (suc (suc (suc n)))) (bit_xor sum (high * 2 ^ 32 + low))
    ≡ bit_xor (after_zeros n high) (after_zeros (suc (suc (suc (suc n)))) (bit_xor sum low))
word_apart n sum high low is_low =
    let split : bit_xor sum (high * 2 ^ 32 + low) ≡ bit_xor (high * 2 ^ 32) (bit_xor sum low) =
    ap (bit_xor sum) (sym (xor_shifted high 32 low is_low) ∙ xor_comm (high * 2 ^ 32) low)
    ∙ sym (xor_assoc sum low (high * 2 ^ 32))
    ∙ xor_comm (bit_xor sum low) (high * 2 ^ 32) in
    ap (after_zeros (suc (suc (suc (suc n))))) split
    ∙ zeros_linear (suc (suc (suc (suc n)))) (high * 2 ^ 32) (bit_xor sum low)
    ∙ ap (λ x. bit_xor x (after_zeros (suc (suc (suc (suc n)))) (bit_xor sum low))) (four_zeros n high)

-- the word of four bytes from this place on
abbrev word_at : List ℕ → ℕ → ℕ
word_at bytes i =
    from_le_bytes w32 (slice_index bytes i ∷ slice_index bytes (suc i) ∷ slice_index bytes (suc (suc i)) ∷ slice_index bytes (suc (suc (suc i))) ∷ [])

low_word : (bytes : List ℕ) (i : ℕ) → AreBytes bytes → word_at bytes i < 2 ^ 32
low_word bytes i are = omega (arith, are i, are (suc i), are (suc (suc i)), are (suc (suc (suc i))))

from_word : (bytes : List ℕ) (i : ℕ) → little (drop i bytes) ≡ little (drop (suc (suc (suc (suc i)))) bytes) * 2 ^ 32 + word_at bytes i
from_word bytes i =
    omega (arith, from_place bytes i, from_place bytes (suc i), from_place bytes (suc (suc i)), from_place bytes (suc (suc (suc i))))

-- the sum of sixteen bytes is that of the four numbers that they are
pub sixteen_bytes : (sum : ℕ) (bytes : List ℕ) → length bytes ≡ 16 → AreBytes bytes
    → bit_xor
    (bit_xor (bit_xor (after_zeros 4 (word_at bytes 12)) (after_zeros 8 (word_at bytes 8))) (after_zeros 12 (word_at bytes 4)))
    (after_zeros 16 (bit_xor sum (word_at bytes 0)))
    ≡ fold with_byte sum bytes
sixteen_bytes sum bytes sixteen are =
    let none : little (drop 16 bytes) ≡ 0 = nothing_past bytes 16 (omega (arith, sixteen)) in
    let last : little (drop 12 bytes) ≡ word_at bytes 12 = omega (arith, from_word bytes 12, none) in
    let third : after_zeros 8 (little (drop 8 bytes)) ≡ bit_xor (after_zeros 4 (word_at bytes 12)) (after_zeros 8 (word_at bytes 8)) =
    ap (after_zeros 8) (from_word bytes 8)
    ∙ word_apart 4 0 (little (drop 12 bytes)) (word_at bytes 8) (low_word bytes 8 are)
    ∙ ap (λ x. bit_xor (after_zeros 4 x) (after_zeros 8 (word_at bytes 8))) last in
    let second : after_zeros 12 (little (drop 4 bytes))
    ≡ bit_xor (bit_xor (after_zeros 4 (word_at bytes 12)) (after_zeros 8 (word_at bytes 8))) (after_zeros 12 (word_at bytes 4)) =
    ap (after_zeros 12) (from_word bytes 4)
    ∙ word_apart 8 0 (little (drop 8 bytes)) (word_at bytes 4) (low_word bytes 4 are)
    ∙ ap (λ x. bit_xor x (after_zeros 12 (word_at bytes 4))) third in
    let first : after_zeros 16 (bit_xor sum (little bytes))
    ≡ bit_xor (after_zeros 12 (little (drop 4 bytes))) (after_zeros 16 (bit_xor sum (word_at bytes 0))) =
    ap (λ x. after_zeros 16 (bit_xor sum x)) (from_word bytes 0)
    ∙ word_apart 12 sum (little (drop 4 bytes)) (word_at bytes 0) (low_word bytes 0 are) in
    ap (λ x. bit_xor x (after_zeros 16 (bit_xor sum (word_at bytes 0)))) (sym second)
    ∙ sym first
    ∙ ap (λ n. after_zeros n (bit_xor sum (little bytes))) (sym sixteen)
    ∙ sym (at_once sum bytes (all_bytes bytes are))

-- what comes first goes into the sum first
pub sixteen_more : (sum : ℕ) (bytes : List ℕ) → fold with_byte (fold with_byte sum (take 16 bytes)) (drop 16 bytes) ≡ fold with_byte sum bytes
sixteen_more sum bytes = parts 16 sum bytes
  where
    parts : (n sum : ℕ) (bytes : List ℕ) → fold with_byte (fold with_byte sum (take n bytes)) (drop n bytes) ≡ fold with_byte sum bytes
    parts zero sum bytes = refl
    parts (suc n) sum [] = refl
    parts (suc n) sum (b ∷ bytes) = parts n (with_byte sum b) bytes
