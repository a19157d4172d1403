-- Where the parts of an entry lie.
use Rattle.std.proofs.Common.{◌≡◌, ℕ, zero, suc, ◌+◌, ◌<◌, ◌≤◌, List, [], ◌∷◌, ◌++◌, length, take, drop, Some, None, Ok, refl, ap, ◌∙◌, append_assoc, arith}
use Rattle.std.specs.Int.{w32, to_be_bytes}
use Rattle.std.proofs.lemmas.List.{append-nil, length-append, length-drop, take_at}
use Rattle.rignolda_agent.specs.Reading.{entry_at}
use Rattle.rignolda_agent.specs.Seen.{AreBytes}
use Rattle.rignolda_agent.specs.BodySpelling.{Setting, entry_bytes}
use Rattle.rignolda_agent.proofs.ForCallers.{after_text, entry_there}
use Rattle.rignolda_settings_c.specs.declared.bodies.BodyEntry.{BodyEntry}
use Rattle.rignolda_settings_c.specs.Calls.{Found}

abbrev set : List ℕ → List ℕ → Setting
set key value = record { key = key; value = Some value }

abbrev unset : List ℕ → Setting
unset key = record { key = key; value = None }

module _ (bytes : List ℕ) (at : ℕ) (key rest : List ℕ) (are : AreBytes bytes) where
  abbrev ReadSet : List ℕ → Type 0
  ReadSet value = entry_at (drop at bytes) ≡ Ok (set key value, rest)

  abbrev ReadUnset : Type 0
  ReadUnset = entry_at (drop at bytes) ≡ Ok (unset key, rest)

  set_ends : (value : List ℕ) → ReadSet value
      → at + 2 + length key + 4 + length value + length rest ≡ length bytes
  set_ends value read =
      let text = ap length (entry_there bytes at (set key value) rest are read) in
      omega (
        arith,
        text,
        length-drop at bytes,
        length-append (entry_bytes (set key value)) rest,
        length-append key (to_be_bytes w32 (length value) ++ value),
      )

  unset_ends : ReadUnset → at + 2 + length key + length rest ≡ length bytes
  unset_ends read =
      let text = ap length (entry_there bytes at (unset key) rest are read) in
      omega (arith, text, length-drop at bytes, length-append (entry_bytes (unset key)) rest, length-append key [])

  pub set_fits : (value : List ℕ) → ReadSet value → at + 2 + length key + 4 + length value ≤ length bytes
  set_fits value read = omega (arith, set_ends value read)

  pub unset_fits : ReadUnset → at + 2 + length key ≤ length bytes
  unset_fits read = omega (arith, unset_ends read)

  pub set_found : (old : BodyEntry) (value : List ℕ) → ReadSet value
      → Found bytes old (entry_at (drop at bytes)) 83
      (record { key = at + 2; key_length = length key; value = at + 2 + length key + 4; value_length = length value })
  set_found old value read =
      let size = to_be_bytes w32 (length value) in
      let mark : List ℕ = 83 ∷ length key ∷ [] in
      let whole = entry_there bytes at (set key value) rest are read in
      let behind_mark : drop (at + 2) bytes ≡ key ++ (size ++ (value ++ rest)) =
      after_text bytes at mark (key ++ (size ++ (value ++ rest))) (
      whole ∙ ap (λ (more : List ℕ). mark ++ more) (
      append_assoc key (size ++ value) rest ∙ ap (λ (more : List ℕ). key ++ more) (append_assoc size value rest)
      )
      ) in
      let behind_key : drop (at + 2 + length key) bytes ≡ size ++ (value ++ rest) = after_text bytes (at + 2) key (size ++ (value ++ rest)) behind_mark in
      let behind_size : drop (at + 2 + length key + 4) bytes ≡ value ++ rest = after_text bytes (at + 2 + length key) size (value ++ rest) behind_key in
      let its_key : take (length key) (drop (at + 2) bytes) ≡ key =
      ap (take (length key)) behind_mark ∙ take_at key (size ++ (value ++ rest)) (length key) refl in
      let its_value : take (length value) (drop (at + 2 + length key + 4) bytes) ≡ value =
      ap (take (length value)) behind_size ∙ take_at value rest (length value) refl in
      rw read (
        refl,
        rw (its_key, its_value) refl,
        refl,
        refl,
        after_text bytes (at + 2 + length key + 4) value rest behind_size,
        set_ends value read,
      )

  pub unset_found : (old : BodyEntry) → ReadUnset
      → Found bytes old (entry_at (drop at bytes)) 85
      (record { key = at + 2; key_length = length key; value = at + 2 + length key; value_length = 0 })
  unset_found old read =
      let mark : List ℕ = 85 ∷ length key ∷ [] in
      let whole = entry_there bytes at (unset key) rest are read in
      let behind_mark : drop (at + 2) bytes ≡ key ++ rest =
      after_text bytes at mark (key ++ rest) (whole ∙ ap (λ (text : List ℕ). mark ++ (text ++ rest)) (append-nil key)) in
      let its_key : take (length key) (drop (at + 2) bytes) ≡ key =
      ap (take (length key)) behind_mark ∙ take_at key rest (length key) refl in
      let same : at + 2 + length key + 0 ≡ at + 2 + length key = omega arith in
      rw read (
        refl,
        rw its_key refl,
        refl,
        refl,
        ap (λ n. drop n bytes) same ∙ after_text bytes (at + 2) key rest behind_mark,
        ap (λ n. n + length rest) same ∙ unset_ends read,
      )

-- there is no entry past the end
pub none_past : (bytes : List ℕ) (at : ℕ) (old : BodyEntry) → length bytes < at → Found bytes old (entry_at (drop at bytes)) 0 old
unfolding entry_at
none_past bytes at old past = rw (nothing bytes at (omega (arith, past))) (refl, refl)
  where
    nothing : (bytes : List ℕ) (at : ℕ) → length bytes ≤ at → drop at bytes ≡ []
    nothing [] zero past = refl
    nothing [] (suc at) past = refl
    nothing (b ∷ bytes) zero past = absurd (omega (arith, past))
    nothing (b ∷ bytes) (suc at) past = nothing bytes at (omega (arith, past))
