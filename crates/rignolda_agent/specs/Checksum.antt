-- The checksum CRC-32 of bytes, bit by bit, as zlib and Ethernet have it.
-- Example: That of the digits from 1 to 9 is cbf43926, in hexadecimal.
-- Source: public knowledge; the polynomial is that of IEEE 802.3, with its bits reversed.
use Rattle.std.specs.Prelude.{ℕ, zero, suc, ◌/◌, ◌%◌, ◌==◌, if◌then◌else◌, List, fold}
use Rattle.std.specs.Int.Bits.{bit_xor}

-- the sum moves down by one bit, and the polynomial goes in where a bit comes out
abbrev pub after_bit : ℕ → ℕ
after_bit sum = if sum % 2 == 1 then bit_xor (sum / 2) 3988292384 else sum / 2

abbrev pub after_bits : ℕ → ℕ → ℕ
after_bits zero sum = sum
after_bits (suc n) sum = after_bits n (after_bit sum)

unfoldable pub with_byte : ℕ → ℕ → ℕ
with_byte sum byte = after_bits 8 (bit_xor sum byte)

-- the sum begins with each bit set, and each is turned at the end
abbrev pub checksum : List ℕ → ℕ
checksum bytes = bit_xor (fold with_byte 4294967295 bytes) 4294967295
