-- The bytes of codes.
use Rattle.std.proofs.Common.{◌≡◌, ℕ, ◌-◌, ◌/◌, ◌%◌, [], ◌∷◌, ◌++◌, sym, ap, ◌∙◌, arith}
use Rattle.stab_lock.specs.declared.part.Part.{Part}
use Rattle.stab_lock.specs.CodesInside.{kind_at, part_at, parts_of}

-- parts are equal where their kinds and their counts are
same_part : (one other : Part) → one.kind ≡ other.kind → one.count ≡ other.count → one ≡ other
same_part one other kinds counts =
    ap (λ k. record one { kind = k }) kinds ∙ ap (λ n. record other { count = n }) counts

-- a byte of one run has this part where it has its kind and its count
pub single_is : (byte : ℕ) (part : Part) → byte / 132 ≡ 0 → kind_at (byte % 11) ≡ part.kind
    → byte / 11 ≡ part.count → parts_of byte ≡ part ∷ []
single_is byte part single kind count =
    rw single (ap (λ p. p ∷ []) (same_part (part_at (byte % 11) (byte / 11)) part kind count))

-- a byte of two runs has the part of another byte, of one event, and then this part
pub pair_is : (byte more : ℕ) (part : Part) → byte / 11 ≡ 1 → part.count ≡ 1 → more / 132 ≡ 1
    → (more - 132) / 11 ≡ byte % 11 → kind_at ((more - 132) % 11) ≡ part.kind
    → parts_of more ≡ parts_of byte ++ part ∷ []
pair_is byte more part one count double first kind =
    let single : byte / 132 ≡ 0 = omega (arith, one) in
    rw (double, single, first, one)
    (ap (λ p. part_at (byte % 11) 1 ∷ p ∷ []) (same_part (part_at ((more - 132) % 11) 1) part kind (sym count)))
