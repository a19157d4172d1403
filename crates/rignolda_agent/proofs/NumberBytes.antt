-- Numbers as bytes, and bytes in front of others.
use Rattle.std.proofs.Common.{◌≡◌, ℕ, ◌+◌, ◌^◌, ◌<◌, ◌≤◌, List, ◌++◌, length, take, drop, ltb, false, Ok, refl, sym, ap, ◌∙◌, inl, inr, append_assoc, arith}
use Rattle.std.specs.Int.{Width, w32, w64, byte_len, from_be_bytes, to_be_bytes}
use Rattle.std.proofs.lemmas.Bool.{cases_lt, ltb-false, le-ltb}
use Rattle.std.proofs.lemmas.List.{take_at, drop_at, take-append-drop, length-append, length-take, get_or-drop, get_or-take, get_or_past}
use Rattle.std.proofs.lemmas.Nat.{be_bytes_4, be_bytes_8, from_be_bytes-to_be_bytes_4, from_be_bytes-to_be_bytes_8}
use Rattle.rignolda_agent.specs.declared.fault.Fault.TheVariants.{Short}
use Rattle.rignolda_agent.specs.Reading.{number_at, text_at}
use Rattle.rignolda_agent.proofs.Steps.{not_refused, same}
use Rattle.rignolda_agent.specs.Seen.{AreBytes}

pub bytes_after : (n : ℕ) (bytes : List ℕ) → AreBytes bytes → AreBytes (drop n bytes)
bytes_after n bytes are i = rw get_or-drop (are (n + i))

pub bytes_before : (n : ℕ) (bytes : List ℕ) → AreBytes bytes → AreBytes (take n bytes)
bytes_before n bytes are i =
    elim (cases_lt i n) [
      | inl within ↦ rw (get_or-take n bytes i 0 within) (are i)
      | inr past ↦ rw (get_or_past (take n bytes) i 0 (omega (arith, length-take n bytes))) (omega arith)
    ]

-- the bytes are these in front and those after them
pub record Begins (bytes front rest : List ℕ) : Type 0 where
  pub whole : bytes ≡ front ++ rest
  pub rest_are : AreBytes rest

pub begins_with_both : (bytes front middle second rest : List ℕ) → Begins bytes front middle → Begins middle second rest
    → Begins bytes (front ++ second) rest
begins_with_both bytes front middle second rest first then = record {
  whole = first.whole ∙ ap (λ (after : List ℕ). front ++ after) then.whole ∙ sym (append_assoc front second rest);
  rest_are = then.rest_are;
}

-- ---- numbers of one width

pub record IsWide (w : Width) (limit : ℕ) : Type 0 where
  pub len : (n : ℕ) → length (to_be_bytes w n) ≡ byte_len w
  pub back : (bytes : List ℕ) → length bytes ≡ byte_len w → AreBytes bytes → to_be_bytes w (from_be_bytes w bytes) ≡ bytes
  pub again : (n : ℕ) → n < limit → from_be_bytes w (to_be_bytes w n) ≡ n
  pub below : (bytes : List ℕ) → AreBytes bytes → from_be_bytes w bytes < limit

pub wide32 : IsWide w32 (2 ^ 32)
wide32 = record {
  len = λ n. refl;
  back = λ bytes len are. be_bytes_4 bytes _ len are refl;
  again = λ n low. from_be_bytes-to_be_bytes_4 n low;
  below = λ bytes are. omega (arith, are 0, are 1, are 2, are 3);
}

pub wide64 : IsWide w64 (2 ^ 64)
wide64 = record {
  len = λ n. refl;
  back = λ bytes len are. be_bytes_8 bytes _ len are refl;
  again = λ n low. from_be_bytes-to_be_bytes_8 n low;
  below = λ bytes are. omega (arith, are 0, are 1, are 2, are 3, are 4, are 5, are 6, are 7);
}

-- what was written is read again
pub number_again : (w : Width) (limit n : ℕ) (rest : List ℕ) → IsWide w limit → n < limit
    → number_at w (to_be_bytes w n ++ rest) ≡ Ok (n, rest)
number_again w limit n rest wide low =
    let len = wide.len n in
    let long : ltb (length (to_be_bytes w n ++ rest)) (byte_len w) ≡ false = le-ltb _ _ (omega (arith, length-append (to_be_bytes w n) rest)) in
    rw (long, take_at (to_be_bytes w n) rest (byte_len w) len, drop_at (to_be_bytes w n) rest (byte_len w) len, wide.again n low) refl

pub text_again : (text rest : List ℕ) → text_at (length text) (text ++ rest) ≡ Ok (text, rest)
text_again text rest =
    let long : ltb (length (text ++ rest)) (length text) ≡ false = le-ltb _ _ (omega (arith, length-append text rest)) in
    rw (long, take_at text rest (length text) refl, drop_at text rest (length text) refl) refl

-- what is read was written so
pub number_spelled : (w : Width) (limit : ℕ) (bytes : List ℕ) (x : ℕ × List ℕ) → IsWide w limit → AreBytes bytes
    → number_at w bytes ≡ Ok x → Begins bytes (to_be_bytes w x.0) x.1 × (x.0 < limit)
number_spelled w limit bytes x wide are is =
    let (fits, read) = not_refused (ltb (length bytes) (byte_len w)) Short (Ok (from_be_bytes w (take (byte_len w) bytes), drop (byte_len w) bytes)) x is in
    let found : (from_be_bytes w (take (byte_len w) bytes), drop (byte_len w) bytes) ≡ x = same _ x read in
    let long : byte_len w ≤ length bytes = ltb-false _ _ fits in
    let front_are = bytes_before (byte_len w) bytes are in
    let number : from_be_bytes w (take (byte_len w) bytes) ≡ x.0 = ap (λ (y : ℕ × List ℕ). y.0) found in
    let rest : drop (byte_len w) bytes ≡ x.1 = ap (λ (y : ℕ × List ℕ). y.1) found in
    let front : to_be_bytes w x.0 ≡ take (byte_len w) bytes =
    ap (to_be_bytes w) (sym number) ∙ wide.back (take (byte_len w) bytes) (omega (arith, length-take (byte_len w) bytes)) front_are in (
      record { whole = rw (front, ← rest) (sym (take-append-drop (byte_len w) bytes)); rest_are = rw (← rest) (bytes_after (byte_len w) bytes are) },
      rw (← number) (wide.below (take (byte_len w) bytes) front_are),
    )

pub text_spelled : (len : ℕ) (bytes : List ℕ) (x : List ℕ × List ℕ) → AreBytes bytes → text_at len bytes ≡ Ok x
    → Begins bytes x.0 x.1 × (length x.0 ≡ len)
text_spelled len bytes x are is =
    let (fits, read) = not_refused (ltb (length bytes) len) Short (Ok (take len bytes, drop len bytes)) x is in
    let found : (take len bytes, drop len bytes) ≡ x = same _ x read in
    let long : len ≤ length bytes = ltb-false _ _ fits in
    let front : take len bytes ≡ x.0 = ap (λ (y : List ℕ × List ℕ). y.0) found in
    let rest : drop len bytes ≡ x.1 = ap (λ (y : List ℕ × List ℕ). y.1) found in (
      record { whole = rw (← front, ← rest) (sym (take-append-drop len bytes)); rest_are = rw (← rest) (bytes_after len bytes are) },
      rw (← front) (omega (arith, length-take len bytes)),
    )
