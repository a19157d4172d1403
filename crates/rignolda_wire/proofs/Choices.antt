-- Messages by their first letters: each of some letters has a reader of its own.
use Rattle.std.proofs.Common.{◌≡◌, ℕ, ◌+◌, ◌<◌, ◌≤◌, ◌⊎◌, inl, inr, true, List, [], ◌∷◌, refl, sym, subst, ◌∙◌, arith}
use Rattle.std.specs.Prelude.{◌==◌}
use Rattle.std.proofs.lemmas.Bool.{eqb-false, eqb-true}
use Rattle.rignolda_wire.specs.declared.fault.Fault.TheVariants.{NoMessage}
use Rattle.rignolda_wire.specs.declared.said.Expect.{Expect}
use Rattle.rignolda_wire.specs.Reading.{◌>>=◌, Reader, byte_at, choose, give, kind_at, refuse}
use Rattle.rignolda_wire.specs.Said.{IsMessage, Said, after_letter, letter, spelling}
use Rattle.rignolda_wire.proofs.Codecs.{Any, IsCodec, codec_after, codec_choose, codec_give, codec_like, codec_map, codec_refuse}
use Rattle.rignolda_wire.proofs.Parts.{codec_byte}
use Rattle.rignolda_wire.proofs.Others.{no_message}

-- ---- a message by its first letter

abbrev pub First : ℕ → Said → Type 0
First first m = (letter m ≡ first) × Any m

-- the messages of a letter are those of one kind: that letter has no others among those that may come
abbrev pub IsKind : Expect → ℕ → (A : Type 0) → (A → Said) → (A → Type 0) → Type 0
IsKind expect first A kind Good = (m : Said) → letter m ≡ first → IsMessage expect m → (a : A) × (m ≡ kind a) × Good a

pub codec_kind : {A : Type 0} {GA : A → Type 0} {sa : A → List ℕ} {j k : ℕ} {r : Reader A} (expect : Expect) (first one : ℕ) (kind : A → Said)
    → (first == one) ≡ true → j ≤ k → IsCodec A Any GA sa j r
    → ((a : A) → GA a → (letter (kind a) ≡ one) × IsMessage expect (kind a) × (after_letter (kind a) ≡ sa a))
    → IsKind expect one A kind GA
    → IsCodec Said (First first) (IsMessage expect) after_letter k (kind_at kind r)
codec_kind expect first one kind is less c into back =
    let e : first ≡ one = eqb-true first one is in
    codec_like
    (codec_map (First first) (IsMessage expect) after_letter kind c
    (λ a good. let (begins, may, spelled) = into a good in ((begins ∙ sym e, tt), may, spelled))
    (λ m known may. back m (known.0 ∙ e) may))
    less
    (λ m known may. (known, may, refl))
    (λ m known may. (known, may))

-- ---- a choice of kinds

abbrev pub Choices : Type 0
Choices = List (ℕ × Reader Said)

-- the reader of the letter that came
abbrev pub chosen : Choices → ℕ → Reader Said
chosen [] first = refuse NoMessage
chosen (c ∷ cs) first = choose (first == c.0) c.1 (chosen cs first)

-- a letter is one of those
abbrev pub IsAmong : ℕ → Choices → Type 0
IsAmong one [] = ⊥
IsAmong one (c ∷ cs) = (one ≡ c.0) ⊎ IsAmong one cs

-- a kind's reader is chosen by its letter
abbrev pub Chosen : Expect → ℕ → ℕ → Reader Said → Type 0
Chosen expect k one r = (first : ℕ) → (first == one) ≡ true → IsCodec Said (First first) (IsMessage expect) after_letter k r

abbrev pub AllChosen : Expect → ℕ → Choices → Type 0
AllChosen expect k [] = Unit {0}
AllChosen expect k (c ∷ cs) = (c.0 < 256) × (Chosen expect k c.0 c.1 × AllChosen expect k cs)

low_letter : (expect : Expect) (k one : ℕ) (cs : Choices) → AllChosen expect k cs → IsAmong one cs → one < 256
low_letter expect k one [] all among = absurd among
low_letter expect k one (c ∷ cs) all among = elim among [ inl e ↦ omega (arith, e, all.0) | inr later ↦ low_letter expect k one cs all.1.1 later ]

codec_chosen : (expect : Expect) (k first : ℕ) (cs : Choices) → AllChosen expect k cs
    → ((m : Said) → First first m → IsMessage expect m → IsAmong first cs) → IsCodec Said (First first) (IsMessage expect) after_letter k (chosen cs first)
codec_chosen expect k first [] all among = codec_refuse (First first) (IsMessage expect) after_letter k NoMessage no_message among
codec_chosen expect k first (c ∷ cs) all among =
    codec_choose (first == c.0) c.1 (chosen cs first) (all.1.0 first)
    (λ no. codec_chosen expect k first cs all.1.1 (λ m known may. elim (among m known may) [ inl e ↦ absurd (eqb-false first c.0 no e) | inr later ↦ later ]))

pub codec_among : (expect : Expect) (k : ℕ) (cs : Choices) → AllChosen expect k cs → ((m : Said) → IsMessage expect m → IsAmong (letter m) cs)
    → IsCodec Said Any (IsMessage expect) spelling (1 + k) (byte_at >>= chosen cs)
codec_among expect k cs all among =
    codec_like (codec_after letter (chosen cs) codec_byte
    (λ first _. codec_chosen expect k first cs all (λ m known may. subst (λ n. IsAmong n cs) known.0 (among m may))))
    (omega arith)
    (λ m known good. (tt, good.1, refl))
    (λ m known may. (tt, (low_letter expect k (letter m) cs all (among m may), may)))

-- a kind that is its letter alone
pub codec_alone : (expect : Expect) (k one : ℕ) (v : Said) → letter v ≡ one → after_letter v ≡ [] → IsMessage expect v
    → ((m : Said) → letter m ≡ one → IsMessage expect m → m ≡ v) → Chosen expect k one (give v)
codec_alone expect k one v begins none may only first is =
    let e : first ≡ one = eqb-true first one is in
    codec_give (First first) (IsMessage expect) after_letter k v (begins ∙ sym e, tt) may none (λ m known may_m. only m (known.0 ∙ e) may_m)
