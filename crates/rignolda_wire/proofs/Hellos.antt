-- What the reader of hellos does.
use Rattle.std.proofs.Common.{◌≡◌, ℕ, ◌^◌, ◌<◌, Bool, true, false, List, [], ◌∷◌, refl, sym, arith}
use Rattle.std.specs.Prelude.{◌==◌}
use Rattle.std.specs.Int.{w16, w64}
use Rattle.std.proofs.lemmas.Bool.{eqb-false, eqb-true, le-leb, leb-true}
use Rattle.rignolda_wire.specs.declared.fault.Fault.TheVariants.{NoHello}
use Rattle.rignolda_wire.specs.declared.said.Expect.TheVariants.{Hello}
use Rattle.rignolda_wire.specs.Names.{is_name, is_name_or_none}
use Rattle.rignolda_wire.specs.Reading.{◌>>=◌, Reader, choose, fourth_at, give, greeting_at, hello_at, kind_at, letter_at, name_at, number_at, refuse}
use Rattle.rignolda_wire.specs.Said.{Greeted, IsGreeting, IsMessage, Said, fourth, greeting_bytes, hello, name_bytes, oldest, spelling}
use Rattle.rignolda_wire.proofs.Codecs.{Any, IsCodec, codec_after, codec_choose, codec_like, codec_map, codec_refuse}
use Rattle.rignolda_wire.proofs.Parts.{codec_byte, codec_number, wide16, wide64}
use Rattle.rignolda_wire.proofs.Others.{codec_behind, codec_name, codec_version, name_short, no_hello, short_or_none}

-- ---- a greeting, field by field

abbrev pub greets : ℕ → ℕ → ℕ → List ℕ → List ℕ → Greeted
greets version life label from to = record { version = version; life = life; label = label; from = from; to = to }

abbrev pub with_to : ℕ → ℕ → ℕ → List ℕ → Reader Greeted
with_to version life label from = name_at is_name_or_none >>= λ to. give (greets version life label from to)

abbrev pub with_from : ℕ → ℕ → ℕ → Reader Greeted
with_from version life label = name_at is_name >>= with_to version life label

abbrev pub with_label : ℕ → ℕ → Reader Greeted
with_label version life = number_at w16 >>= with_from version life

abbrev pub with_life : ℕ → Reader Greeted
with_life version = number_at w64 >>= with_label version

-- what is known of a greeting when its last field is read
abbrev Known : ℕ → ℕ → ℕ → List ℕ → Greeted → Type 0
Known version life label from g =
    (g.from ≡ from) × ((g.label ≡ label) × ((g.life ≡ life) × ((g.version ≡ version) × Any g)))

all_known : (version life label : ℕ) (from : List ℕ) (g : Greeted) → Known version life label from g → g ≡ greets version life label from g.to
all_known version life label from g known =
    rw (← known.0, ← known.1.0, ← known.1.1.0, ← known.1.1.1.0) refl

pub codec_greeting : (least : ℕ) → IsCodec Greeted Any (IsGreeting least) greeting_bytes 141 (greeting_at least)
unfolding greeting_at
codec_greeting least =
    codec_like (codec_after (λ (g : Greeted). g.version) with_life (codec_version least)
    (λ version _. codec_after (λ (g : Greeted). g.life) (with_label version) (codec_number w64 (2 ^ 64) wide64)
    (λ life _. codec_after (λ (g : Greeted). g.label) (with_from version life) (codec_number w16 (2 ^ 16) wide16)
    (λ label _. codec_after (λ (g : Greeted). g.from) (with_to version life label) (codec_name is_name name_short)
    (λ from _. codec_map (Known version life label from) (λ g. is_name_or_none g.to ≡ true) (λ g. name_bytes g.to) (greets version life label from) (codec_name is_name_or_none short_or_none)
    (λ to is. ((refl, (refl, (refl, (refl, tt)))), is, refl))
    (λ g known is. (g.to, all_known version life label from g known, is)))))))
    (omega arith)
    (λ g known good. (
      tt,
      record {
        spoken = leb-true least g.version good.0.1;
        version = good.0.0;
        life = good.1.0;
        label = good.1.1.0;
        from = good.1.1.1.0;
        to = good.1.1.1.1;
      },
      refl,
    ))
    (λ g known is. (tt, ((is.version, le-leb least g.version is.spoken), (is.life, (is.label, (is.from, is.to))))))

-- ---- a hello, or a look

-- the last of its four letters
abbrev last_letter : Said → ℕ
last_letter (hello is_look g) = fourth is_look
last_letter m = 0

abbrev after_four : Said → List ℕ
after_four (hello is_look g) = greeting_bytes g
after_four m = []

abbrev Fourth : ℕ → Said → Type 0
Fourth letter m = (last_letter m ≡ letter) × Any m

codec_greets : (letter : ℕ) (is_look : Bool) → letter ≡ fourth is_look
    → IsCodec Said (Fourth letter) (IsMessage Hello) after_four 141 (kind_at (hello is_look) (greeting_at (oldest is_look)))
codec_greets letter is_look is =
    codec_map (Fourth letter) (IsMessage Hello) after_four (hello is_look) (codec_greeting (oldest is_look))
    (λ g greets. ((sym is, tt), greets, refl))
    (back letter is_look is)
  where
    back : (letter : ℕ) (is_look : Bool) → letter ≡ fourth is_look → (m : Said) → Fourth letter m → IsMessage Hello m
        → (g : Greeted) × (m ≡ hello is_look g) × IsGreeting (oldest is_look) g
    back letter true is (hello true g) known good = (g, refl, good)
    back letter false is (hello false g) known good = (g, refl, good)
    back letter true is (hello false g) known good = absurd (omega (arith, known.0, is))
    back letter false is (hello true g) known good = absurd (omega (arith, known.0, is))
    back letter is_look is m known good = absurd good

-- no hello has another fourth letter
no_other : (letter : ℕ) → (letter == 76) ≡ false → (letter == 68) ≡ false → (m : Said) → Fourth letter m → IsMessage Hello m → ⊥
no_other letter no_look none (hello true g) known good = eqb-false letter 76 no_look (sym known.0)
no_other letter no_look none (hello false g) known good = eqb-false letter 68 none (sym known.0)
no_other letter no_look none m known good = absurd good

codec_fourth : IsCodec Said Any (λ m. (last_letter m < 256) × IsMessage Hello m) (λ m. last_letter m ∷ after_four m) 142 fourth_at
unfolding fourth_at
codec_fourth =
    let hellos : ℕ → Reader Said = λ letter. choose (letter == 68) (kind_at (hello false) (greeting_at 1)) (refuse NoHello) in
    codec_after last_letter (λ letter. choose (letter == 76) (kind_at (hello true) (greeting_at 2)) (hellos letter)) codec_byte
    (λ letter _. codec_choose (letter == 76) (kind_at (hello true) (greeting_at 2)) (hellos letter)
    (λ look. codec_greets letter true (eqb-true letter 76 look))
    (λ no_look. codec_choose (letter == 68) (kind_at (hello false) (greeting_at 1)) (refuse NoHello)
    (λ is. codec_greets letter false (eqb-true letter 68 is))
    (λ none. codec_refuse (Fourth letter) (IsMessage Hello) after_four 141 NoHello no_hello (no_other letter no_look none))))

pub codec_hello : IsCodec Said Any (IsMessage Hello) spelling 145 hello_at
unfolding hello_at
codec_hello =
    codec_like (codec_behind 82 (letter_at 71 >>= λ _. letter_at 78 >>= λ _. fourth_at) (omega arith) refl
    (codec_behind 71 (letter_at 78 >>= λ _. fourth_at) (omega arith) refl
    (codec_behind 78 fourth_at (omega arith) refl codec_fourth)))
    (omega arith)
    (λ m known good. (tt, good.1, spelled m good.1))
    (λ m known is. (tt, (low m is, is)))
  where
    spelled : (m : Said) → IsMessage Hello m → 82 ∷ 71 ∷ 78 ∷ last_letter m ∷ after_four m ≡ spelling m
    spelled (hello is_look g) is = refl
    spelled m is = absurd is

    low : (m : Said) → IsMessage Hello m → last_letter m < 256
    low (hello true g) is = omega arith
    low (hello false g) is = omega arith
    low m is = absurd is
