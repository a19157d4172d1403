-- The tables have the sums that their names say.
use Rattle.std.proofs.Common.{◌≡◌, ℕ, zero, suc, ◌+◌, ◌<◌, Bool, true, false, List, [], ◌∷◌, length, refl, ap, ◌∙◌, arith, slice_index_or}
use Rattle.std.specs.Prelude.{◌==◌, ◌&&◌}
use Rattle.std.proofs.lemmas.Bool.{eqb-true}
use Rattle.rignolda_agent.specs.declared.tables.TheConstants.{SUMS_1, SUMS_2, SUMS_3, SUMS_4, SUMS_5, SUMS_6, SUMS_7, SUMS_8}
use Rattle.rignolda_agent.specs.declared.more_tables.TheConstants.{SUMS_9, SUMS_10, SUMS_11, SUMS_12, SUMS_13, SUMS_14, SUMS_15, SUMS_16}
use Rattle.rignolda_agent.specs.Sums.{after_zeros}

-- from this byte on each has the sum with so many zeros after it
abbrev are_sums : ℕ → ℕ → List ℕ → Bool
are_sums n byte [] = true
are_sums n byte (x ∷ xs) = (x == after_zeros n byte) && are_sums n (suc byte) xs

both : (a b : Bool) → (a && b) ≡ true → (a ≡ true) × (b ≡ true)
both true b is = (refl, is)
both false b is = absurd cc

in_table : (n byte : ℕ) (table : List ℕ) (i sought : ℕ) → sought ≡ byte + i → are_sums n byte table ≡ true → i < length table
    → slice_index_or table i 0 ≡ after_zeros n sought
in_table n byte [] i sought is are within = absurd (omega (arith, within))
in_table n byte (x ∷ xs) zero sought is are within =
    let same : byte ≡ sought = omega (arith, is) in
    eqb-true x (after_zeros n byte) (both (x == after_zeros n byte) (are_sums n (suc byte) xs) are).0 ∙ ap (after_zeros n) same
in_table n byte (x ∷ xs) (suc i) sought is are within =
    in_table n (suc byte) xs i sought (omega (arith, is)) (both (x == after_zeros n byte) (are_sums n (suc byte) xs) are).1 (omega (arith, within))

pub in_1 : (byte : ℕ) → byte < 256 → slice_index_or SUMS_1 byte 0 ≡ after_zeros 1 byte
in_1 byte low = in_table 1 0 SUMS_1 byte byte (omega arith) refl low

pub in_2 : (byte : ℕ) → byte < 256 → slice_index_or SUMS_2 byte 0 ≡ after_zeros 2 byte
in_2 byte low = in_table 2 0 SUMS_2 byte byte (omega arith) refl low

pub in_3 : (byte : ℕ) → byte < 256 → slice_index_or SUMS_3 byte 0 ≡ after_zeros 3 byte
in_3 byte low = in_table 3 0 SUMS_3 byte byte (omega arith) refl low

pub in_4 : (byte : ℕ) → byte < 256 → slice_index_or SUMS_4 byte 0 ≡ after_zeros 4 byte
in_4 byte low = in_table 4 0 SUMS_4 byte byte (omega arith) refl low

pub in_5 : (byte : ℕ) → byte < 256 → slice_index_or SUMS_5 byte 0 ≡ after_zeros 5 byte
in_5 byte low = in_table 5 0 SUMS_5 byte byte (omega arith) refl low

pub in_6 : (byte : ℕ) → byte < 256 → slice_index_or SUMS_6 byte 0 ≡ after_zeros 6 byte
in_6 byte low = in_table 6 0 SUMS_6 byte byte (omega arith) refl low

pub in_7 : (byte : ℕ) → byte < 256 → slice_index_or SUMS_7 byte 0 ≡ after_zeros 7 byte
in_7 byte low = in_table 7 0 SUMS_7 byte byte (omega arith) refl low

pub in_8 : (byte : ℕ) → byte < 256 → slice_index_or SUMS_8 byte 0 ≡ after_zeros 8 byte
in_8 byte low = in_table 8 0 SUMS_8 byte byte (omega arith) refl low

pub in_9 : (byte : ℕ) → byte < 256 → slice_index_or SUMS_9 byte 0 ≡ after_zeros 9 byte
in_9 byte low = in_table 9 0 SUMS_9 byte byte (omega arith) refl low

pub in_10 : (byte : ℕ) → byte < 256 → slice_index_or SUMS_10 byte 0 ≡ after_zeros 10 byte
in_10 byte low = in_table 10 0 SUMS_10 byte byte (omega arith) refl low

pub in_11 : (byte : ℕ) → byte < 256 → slice_index_or SUMS_11 byte 0 ≡ after_zeros 11 byte
in_11 byte low = in_table 11 0 SUMS_11 byte byte (omega arith) refl low

pub in_12 : (byte : ℕ) → byte < 256 → slice_index_or SUMS_12 byte 0 ≡ after_zeros 12 byte
in_12 byte low = in_table 12 0 SUMS_12 byte byte (omega arith) refl low

pub in_13 : (byte : ℕ) → byte < 256 → slice_index_or SUMS_13 byte 0 ≡ after_zeros 13 byte
in_13 byte low = in_table 13 0 SUMS_13 byte byte (omega arith) refl low

pub in_14 : (byte : ℕ) → byte < 256 → slice_index_or SUMS_14 byte 0 ≡ after_zeros 14 byte
in_14 byte low = in_table 14 0 SUMS_14 byte byte (omega arith) refl low

pub in_15 : (byte : ℕ) → byte < 256 → slice_index_or SUMS_15 byte 0 ≡ after_zeros 15 byte
in_15 byte low = in_table 15 0 SUMS_15 byte byte (omega arith) refl low

pub in_16 : (byte : ℕ) → byte < 256 → slice_index_or SUMS_16 byte 0 ≡ after_zeros 16 byte
in_16 byte low = in_table 16 0 SUMS_16 byte byte (omega arith) refl low
