-- Fields: bytes, numbers, texts of so many bytes, names.
use Rattle.std.proofs.Common.{◌≡◌, ◌≢◌, ℕ, suc, ◌+◌, ◌^◌, ◌<◌, ◌≤◌, inl, inr, false, ltb, List, [], ◌∷◌, ◌++◌, length, take, drop, Ok, Err, refl, sym, ap, subst, ◌∙◌, arith}
use Rattle.std.specs.Int.{Width, w16, w32, w64, byte_len, from_be_bytes, to_be_bytes}
use Rattle.std.proofs.lemmas.Bool.{cases_lt, ltb-false, ltb-true, le-ltb}
use Rattle.std.proofs.lemmas.List.{take_at, drop_at, take-append-drop, length-append, length-take, get_or-drop, get_or-take, get_or_past}
use Rattle.std.proofs.lemmas.Nat.{be_bytes_2, be_bytes_4, be_bytes_8, from_be_bytes-to_be_bytes_2, from_be_bytes-to_be_bytes_4, from_be_bytes-to_be_bytes_8}
use Rattle.rignolda_wire.specs.declared.fault.Fault.{Fault}
use Rattle.rignolda_wire.specs.declared.fault.Fault.TheVariants.{More}
use Rattle.rignolda_wire.specs.Reading.{byte_at, number_at, text_at}
use Rattle.rignolda_wire.specs.Seen.{AreBytes}
use Rattle.rignolda_wire.proofs.Steps.{enough, not_enough, same}
use Rattle.rignolda_wire.proofs.Codecs.{Any, IsCodec, IsTold}

pub bytes_after : (n : ℕ) (bytes : List ℕ) → AreBytes bytes → AreBytes (drop n bytes)
bytes_after n bytes are i = rw get_or-drop (are (n + i))

pub bytes_before : (n : ℕ) (bytes : List ℕ) → AreBytes bytes → AreBytes (take n bytes)
bytes_before n bytes are i =
    elim (cases_lt i n) [
      | inl within ↦ rw (get_or-take n bytes i 0 within) (are i)
      | inr past ↦ rw (get_or_past (take n bytes) i 0 (omega (arith, length-take n bytes))) (omega arith)
    ]

-- ---- a byte

pub codec_byte : IsCodec ℕ Any (λ n. n < 256) (λ n. n ∷ []) 1 byte_at
codec_byte = record {
  again = λ b rest known good. refl;
  told = told_byte;
  lasts = lasts_byte;
  few = few_byte;
}
  where
    told_byte : (bytes : List ℕ) (x : ℕ × List ℕ) → AreBytes bytes → byte_at bytes ≡ Ok x → IsTold ℕ Any (λ n. n < 256) (λ n. n ∷ []) 1 bytes x
    told_byte [] x are is = absurd cc
    told_byte (b ∷ rest) x are is =
        subst (λ (y : ℕ × List ℕ). IsTold ℕ Any (λ n. n < 256) (λ n. n ∷ []) 1 (b ∷ rest) y) (same (b, rest) x is)
        (record { known = tt; good = are 0; whole = refl; long = omega arith; rest_are = λ i. are (suc i) })

    lasts_byte : (bytes more : List ℕ) (fault : Fault) → AreBytes bytes → byte_at bytes ≡ Err fault → fault ≢ More → byte_at (bytes ++ more) ≡ Err fault
    lasts_byte [] more fault are is apart = absurd (apart (let e : More ≡ fault = cc in sym e))
    lasts_byte (b ∷ bytes) more fault are is apart = absurd cc

    few_byte : (bytes : List ℕ) → AreBytes bytes → byte_at bytes ≡ Err More → length bytes < 1
    few_byte [] are is = omega arith
    few_byte (b ∷ bytes) are is = absurd cc

-- ---- texts

-- so many bytes, if what is known and good of them is that they are so many
pub codec_text : (K G : List ℕ → Type 0) (n k : ℕ) → n ≤ k → ((t : List ℕ) → K t → G t → length t ≡ n) → ((t : List ℕ) → length t ≡ n → K t × G t)
    → IsCodec (List ℕ) K G (λ t. t) k (text_at n)
codec_text K G n k less as_long is_so = record {
  again = λ t rest known good.
      let so_long = as_long t known good in
      let long : ltb (length (t ++ rest)) n ≡ false = le-ltb _ _ (omega (arith, so_long, length-append t rest)) in
      rw (long, take_at t rest n so_long, drop_at t rest n so_long) refl;
  told = λ bytes x are is.
      let (fits, read) = enough (ltb (length bytes) n) More (Ok (take n bytes, drop n bytes)) x is in
      let long : n ≤ length bytes = ltb-false _ _ fits in
      let (known, good) = is_so (take n bytes) (omega (arith, long, length-take n bytes)) in
      subst (λ (y : List ℕ × List ℕ). IsTold (List ℕ) K G (λ t. t) k bytes y) (same (take n bytes, drop n bytes) x read) (record {
        known = known;
        good = good;
        whole = sym (take-append-drop n bytes);
        long = omega (arith, less, long, ap length (take-append-drop n bytes), length-append (take n bytes) (drop n bytes), length-take n bytes);
        rest_are = bytes_after n bytes are;
      });
  lasts = λ bytes more fault are is apart. absurd (apart (not_enough (ltb (length bytes) n) More fault (take n bytes, drop n bytes) is).1);
  few = λ bytes are is.
      let short : length bytes < n = ltb-true _ _ (not_enough (ltb (length bytes) n) More More (take n bytes, drop n bytes) is).0 in
      omega (arith, short, less);
}

-- ---- numbers

pub record IsWide (w : Width) (limit : ℕ) : Type 0 where
  pub len : (n : ℕ) → length (to_be_bytes w n) ≡ byte_len w
  pub back : (bytes : List ℕ) → length bytes ≡ byte_len w → AreBytes bytes → to_be_bytes w (from_be_bytes w bytes) ≡ bytes
  pub again : (n : ℕ) → n < limit → from_be_bytes w (to_be_bytes w n) ≡ n
  pub below : (bytes : List ℕ) → AreBytes bytes → from_be_bytes w bytes < limit

pub wide16 : IsWide w16 (2 ^ 16)
wide16 = record {
  again = from_be_bytes-to_be_bytes_2;
  len = λ n. refl;
  back = λ bytes len are. be_bytes_2 bytes _ len are refl;
  below = λ bytes are. omega (arith, are 0, are 1);
}

pub wide32 : IsWide w32 (2 ^ 32)
wide32 = record {
  again = from_be_bytes-to_be_bytes_4;
  len = λ n. refl;
  back = λ bytes len are. be_bytes_4 bytes _ len are refl;
  below = λ bytes are. omega (arith, are 0, are 1, are 2, are 3);
}

pub wide64 : IsWide w64 (2 ^ 64)
wide64 = record {
  again = from_be_bytes-to_be_bytes_8;
  len = λ n. refl;
  back = λ bytes len are. be_bytes_8 bytes _ len are refl;
  below = λ bytes are. omega (arith, are 0, are 1, are 2, are 3, are 4, are 5, are 6, are 7);
}

pub codec_number : (w : Width) (limit : ℕ) → IsWide w limit → IsCodec ℕ Any (λ n. n < limit) (to_be_bytes w) (byte_len w) (number_at w)
codec_number w limit wide =
    let k : ℕ = byte_len w in
    record {
      again = λ n rest known low.
          let long : ltb (length (to_be_bytes w n ++ rest)) k ≡ false = le-ltb _ _ (omega (arith, wide.len n, length-append (to_be_bytes w n) rest)) in
          rw (long, take_at (to_be_bytes w n) rest k (wide.len n), drop_at (to_be_bytes w n) rest k (wide.len n), wide.again n low) refl;
      told = λ bytes x are is.
          let number : ℕ = from_be_bytes w (take k bytes) in
          let (fits, read) = enough (ltb (length bytes) k) More (Ok (number, drop k bytes)) x is in
          let long : k ≤ length bytes = ltb-false _ _ fits in
          let front_are = bytes_before k bytes are in
          let front : to_be_bytes w number ≡ take k bytes = wide.back (take k bytes) (omega (arith, long, length-take k bytes)) front_are in
          subst (λ (y : ℕ × List ℕ). IsTold ℕ Any (λ n. n < limit) (to_be_bytes w) k bytes y) (same (number, drop k bytes) x read) (record {
            known = tt;
            good = wide.below (take k bytes) front_are;
            whole = sym (take-append-drop k bytes) ∙ ap (λ (text : List ℕ). text ++ drop k bytes) (sym front);
            long = omega (arith, long, ap length (take-append-drop k bytes), length-append (take k bytes) (drop k bytes), length-take k bytes);
            rest_are = bytes_after k bytes are;
          });
      lasts = λ bytes more fault are is apart.
          absurd (apart (not_enough (ltb (length bytes) k) More fault (from_be_bytes w (take k bytes), drop k bytes) is).1);
      few = λ bytes are is. ltb-true _ _ (not_enough (ltb (length bytes) k) More More (from_be_bytes w (take k bytes), drop k bytes) is).0;
    }
