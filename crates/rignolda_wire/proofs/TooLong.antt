-- Names that are too long.
use Rattle.std.proofs.Common.{◌≡◌, ℕ, ◌<◌, ◌^◌, Bool, true, false, List, [], ◌∷◌, ◌++◌, Result, Ok, Err, inl, inr, refl, ap, ◌∙◌, arith}
use Rattle.std.specs.Int.{w16, w64, to_be_bytes}
use Rattle.std.proofs.lemmas.Bool.{le-leb}
use Rattle.std.proofs.lemmas.Bool.Decides.{leb_tells}
use Rattle.rignolda_wire.specs.declared.fault.Fault.{Fault}
use Rattle.rignolda_wire.specs.declared.fault.Fault.TheVariants.{NoName}
use Rattle.rignolda_wire.specs.declared.said.Expect.TheVariants.{Hello}
use Rattle.rignolda_wire.specs.Names.{is_name, is_name_or_none, name_limit}
use Rattle.rignolda_wire.specs.Reading.{Reader, fourth_at, give, greeting_at, hello_at, letter_at, message_at, name_at, name_len_at, number_at, read_on, version_at}
use Rattle.rignolda_wire.specs.Said.{Greeted, IsGreeting, before_names, hello, name_bytes, oldest}
use Rattle.rignolda_wire.proofs.Hellos.{greets, with_from, with_label, with_life, with_to}
use Rattle.rignolda_wire.proofs.Parts.{codec_number, wide16, wide64}
use Rattle.rignolda_wire.proofs.Others.{codec_name, codec_version, name_short}

name_refused : (is : List ℕ → Bool) (len : ℕ) → name_limit < len → name_at is (len ∷ []) ≡ Err NoName
unfolding name_at name_len_at
name_refused is len long =
    elim (leb_tells len name_limit) [ inl (_, short) ↦ absurd (omega (arith, long, short)) | inr (above, _) ↦ rw above refl ]

-- what was read is followed by what is refused
goes_on : {A B : Type 0} (read : Result (A × List ℕ) Fault) (next : A → Reader B) (a : A) (rest : List ℕ) → read ≡ Ok (a, rest)
    → next a rest ≡ Err NoName → read_on read next ≡ Err NoName
goes_on {A = A} read next a rest is refused = ap (λ (z : Result (A × List ℕ) Fault). read_on z next) is ∙ refused

module _ (least : ℕ) (g : Greeted) (is : IsGreeting least g) where
  -- what is before the names is read, and then they are refused
  names_refused : (names : List ℕ) → with_from g.version g.life g.label names ≡ Err NoName
      → greeting_at least (g.version ∷ (to_be_bytes w64 g.life ++ (to_be_bytes w16 g.label ++ names))) ≡ Err NoName
  unfolding greeting_at
  names_refused names refused =
      let after_life : List ℕ = to_be_bytes w16 g.label ++ names in
      let after_version : List ℕ = to_be_bytes w64 g.life ++ after_life in
      goes_on (version_at least (g.version ∷ after_version)) with_life g.version after_version ((codec_version least).again g.version after_version tt (is.version, le-leb least g.version is.spoken))
      (goes_on (number_at w64 after_version) (with_label g.version) g.life after_life ((codec_number w64 (2 ^ 64) wide64).again g.life after_life tt is.life)
      (goes_on (number_at w16 after_life) (with_from g.version g.life) g.label names ((codec_number w16 (2 ^ 16) wide16).again g.label names tt is.label) refused))

  module _ (len : ℕ) (long : name_limit < len) where
    own_refused : greeting_at least (g.version ∷ (to_be_bytes w64 g.life ++ (to_be_bytes w16 g.label ++ (len ∷ [])))) ≡ Err NoName
    own_refused =
        names_refused (len ∷ [])
        (ap (λ (z : Result (List ℕ × List ℕ) Fault). read_on z (with_to g.version g.life g.label)) (name_refused is_name len long))

    other_refused : greeting_at least (g.version ∷ (to_be_bytes w64 g.life ++ (to_be_bytes w16 g.label ++ (name_bytes g.from ++ (len ∷ []))))) ≡ Err NoName
    other_refused =
        names_refused (name_bytes g.from ++ (len ∷ []))
        (goes_on (name_at is_name (name_bytes g.from ++ (len ∷ []))) (with_to g.version g.life g.label) g.from (len ∷ []) ((codec_name is_name name_short).again g.from (len ∷ []) tt is.from)
        (ap (λ (z : Result (List ℕ × List ℕ) Fault). read_on z (λ to. give (greets g.version g.life g.label g.from to))) (name_refused is_name_or_none len long)))

pub own_is_refused : (is_look : Bool) (g : Greeted) (len : ℕ) → IsGreeting (oldest is_look) g → name_limit < len
    → message_at Hello (before_names is_look g ++ (len ∷ [])) ≡ Err NoName
unfolding hello_at letter_at fourth_at
own_is_refused true g len is long = ap (λ (z : Result (Greeted × List ℕ) Fault). read_on z (λ greeting. give (hello true greeting))) (own_refused 2 g is len long)
own_is_refused false g len is long = ap (λ (z : Result (Greeted × List ℕ) Fault). read_on z (λ greeting. give (hello false greeting))) (own_refused 1 g is len long)

pub other_is_refused : (is_look : Bool) (g : Greeted) (len : ℕ) → IsGreeting (oldest is_look) g → name_limit < len
    → message_at Hello (before_names is_look g ++ (name_bytes g.from ++ (len ∷ []))) ≡ Err NoName
unfolding hello_at letter_at fourth_at
other_is_refused true g len is long = ap (λ (z : Result (Greeted × List ℕ) Fault). read_on z (λ greeting. give (hello true greeting))) (other_refused 2 g is len long)
other_is_refused false g len is long = ap (λ (z : Result (Greeted × List ℕ) Fault). read_on z (λ greeting. give (hello false greeting))) (other_refused 1 g is len long)
