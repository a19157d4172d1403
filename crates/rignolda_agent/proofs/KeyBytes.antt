-- The bytes of a key, by a table and eight at a time.
use Rattle.std.proofs.Common.{◌≡◌, ℕ, zero, suc, ◌+◌, ◌<◌, ◌≤◌, Bool, true, false, List, [], ◌∷◌, length, take, drop, refl, sym, ap, ◌∙◌, arith, slice_index_or}
use Rattle.std.specs.Prelude.{◌&&◌, slice_index}
use Rattle.std.specs.List.{list_all}
use Rattle.rignolda_agent.specs.declared.keys.TheConstants.{KEY_BYTES}
use Rattle.rignolda_agent.specs.BodySpelling.{is_key_byte}

-- whether so many bytes may be in a key, from this one on
abbrev marks : ℕ → ℕ → List Bool
marks byte zero = []
marks byte (suc n) = is_key_byte byte ∷ marks (suc byte) n

in_marks : (n byte i sought : ℕ) (d : Bool) → sought ≡ byte + i → i < n → slice_index_or (marks byte n) i d ≡ is_key_byte sought
in_marks zero byte i sought d is within = absurd (omega (arith, within))
in_marks (suc n) byte zero sought d is within = let same : byte ≡ sought = omega (arith, is) in ap is_key_byte same
in_marks (suc n) byte (suc i) sought d is within = in_marks n (suc byte) i sought d (omega (arith, is)) (omega (arith, within))

table_is : KEY_BYTES ≡ marks 0 256
table_is = refl

pub in_table : (byte : ℕ) (d : Bool) → byte < 256 → slice_index_or KEY_BYTES byte d ≡ is_key_byte byte
in_table byte d low = ap (λ (table : List Bool). slice_index_or table byte d) table_is ∙ in_marks 256 0 byte byte d (omega arith) low

-- ---- eight of them

regrouped : (a b c d e f g h : Bool)
    → (((a && b) && (c && d)) && ((e && f) && (g && h))) ≡ (a && (b && (c && (d && (e && (f && (g && (h && true))))))))
regrouped false b c d e f g h = refl
regrouped true false c d e f g h = refl
regrouped true true false d e f g h = refl
regrouped true true true false e f g h = refl
regrouped true true true true false f g h = refl
regrouped true true true true true false g h = refl
regrouped true true true true true true false h = refl
regrouped true true true true true true true false = refl
regrouped true true true true true true true true = refl

at_place : (bytes : List ℕ) (i : ℕ) → i < length bytes
    → list_all is_key_byte (drop i bytes) ≡ (is_key_byte (slice_index bytes i) && list_all is_key_byte (drop (suc i) bytes))
at_place [] i within = absurd (omega (arith, within))
at_place (b ∷ bytes) zero within = refl
at_place (b ∷ bytes) (suc i) within = at_place bytes i (omega (arith, within))

none_past : (bytes : List ℕ) (i : ℕ) → length bytes ≤ i → list_all is_key_byte (drop i bytes) ≡ true
none_past [] zero past = refl
none_past [] (suc i) past = refl
none_past (b ∷ bytes) zero past = absurd (omega (arith, past))
none_past (b ∷ bytes) (suc i) past = none_past bytes i (omega (arith, past))

pub all_eight : (bytes : List ℕ) → length bytes ≡ 8
    → (
    ((is_key_byte (slice_index bytes 0) && is_key_byte (slice_index bytes 1)) && (is_key_byte (slice_index bytes 2) && is_key_byte (slice_index bytes 3)))
    && ((is_key_byte (slice_index bytes 4) && is_key_byte (slice_index bytes 5)) && (is_key_byte (slice_index bytes 6) && is_key_byte (slice_index bytes 7)))
    ) ≡ list_all is_key_byte bytes
all_eight bytes eight =
    let may : ℕ → Bool = λ i. is_key_byte (slice_index bytes i) in
    let step : (i : ℕ) → i < 8 → list_all is_key_byte (drop i bytes) ≡ (may i && list_all is_key_byte (drop (suc i) bytes)) =
    λ i low. at_place bytes i (omega (arith, low, eight)) in
    regrouped (may 0) (may 1) (may 2) (may 3) (may 4) (may 5) (may 6) (may 7)
    ∙ sym (
    step 0 (omega arith)
    ∙ ap (λ b. may 0 && b) (step 1 (omega arith)
    ∙ ap (λ b. may 1 && b) (step 2 (omega arith)
    ∙ ap (λ b. may 2 && b) (step 3 (omega arith)
    ∙ ap (λ b. may 3 && b) (step 4 (omega arith)
    ∙ ap (λ b. may 4 && b) (step 5 (omega arith)
    ∙ ap (λ b. may 5 && b) (step 6 (omega arith)
    ∙ ap (λ b. may 6 && b) (step 7 (omega arith)
    ∙ ap (λ b. may 7 && b) (none_past bytes 8 (omega (arith, eight))))))))))
    )

-- ---- the first of them, and the others

after_good : (may front back all : Bool) → (front ≡ true → back ≡ all) → (may && front) ≡ true → back ≡ (may && all)
after_good true front back all same good = same good
after_good false front back all same good = absurd cc

after_bad : (may front all : Bool) → (front ≡ false → all ≡ false) → (may && front) ≡ false → (may && all) ≡ false
after_bad true front all same bad = same bad
after_bad false front all same bad = refl

good_front : (n : ℕ) (bytes : List ℕ) → list_all is_key_byte (take n bytes) ≡ true
    → list_all is_key_byte (drop n bytes) ≡ list_all is_key_byte bytes
good_front zero bytes good = refl
good_front (suc n) [] good = refl
good_front (suc n) (b ∷ bytes) good =
    after_good (is_key_byte b) (list_all is_key_byte (take n bytes)) (list_all is_key_byte (drop n bytes)) (list_all is_key_byte bytes)
    (good_front n bytes) good

bad_front : (n : ℕ) (bytes : List ℕ) → list_all is_key_byte (take n bytes) ≡ false → list_all is_key_byte bytes ≡ false
bad_front zero bytes bad = absurd cc
bad_front (suc n) [] bad = absurd cc
bad_front (suc n) (b ∷ bytes) bad =
    after_bad (is_key_byte b) (list_all is_key_byte (take n bytes)) (list_all is_key_byte bytes) (bad_front n bytes) bad

pub good_eight : (bytes : List ℕ) → list_all is_key_byte (take 8 bytes) ≡ true → list_all is_key_byte (drop 8 bytes) ≡ list_all is_key_byte bytes
good_eight = good_front 8

pub bad_eight : (bytes : List ℕ) → list_all is_key_byte (take 8 bytes) ≡ false → list_all is_key_byte bytes ≡ false
bad_eight = bad_front 8
