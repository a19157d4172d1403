-- Sums of several bytes at once.
use Rattle.std.specs.Prelude.{ℕ, zero, suc, ◌+◌, ◌*◌, List, [], ◌∷◌}
use Rattle.rignolda_agent.specs.Checksum.{after_bits}

-- the sum after so many bytes that are zero
abbrev pub after_zeros : ℕ → ℕ → ℕ
after_zeros zero sum = sum
after_zeros (suc n) sum = after_zeros n (after_bits 8 sum)

-- the number that bytes are, the first of them lowest
abbrev pub little : List ℕ → ℕ
little [] = 0
little (byte ∷ bytes) = little bytes * 256 + byte
