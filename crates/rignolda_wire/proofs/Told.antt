-- What is told to an end that is refused, and the words of links in stores.
use Rattle.std.proofs.Common.{◌≡◌, ◌≢◌, ℕ, ◌^◌, ◌<◌, ◌⊎◌, inl, inr, Bool, true, false, cond, List, [], ◌∷◌, ◌++◌, Option, Some, None, Result, Ok, Err, refl, sym, ap, ◌∙◌, arith}
use Rattle.std.specs.Prelude.{◌==◌, ◌&&◌}
use Rattle.std.specs.Int.{w16, w32, to_be_bytes}
use Rattle.std.proofs.lemmas.Bool.{eqb-true}
use Rattle.std.proofs.lemmas.List.{append-nil}
use Rattle.std.proofs.lemmas.Nat.{from_be_bytes-to_be_bytes_4}
use Rattle.rignolda_wire.specs.declared.fault.Fault.{Fault}
use Rattle.rignolda_wire.specs.declared.fault.Fault.TheVariants.{More}
use Rattle.rignolda_wire.specs.declared.refusal.Refusal.{Refusal}
use Rattle.rignolda_wire.specs.declared.refusal.Refusal.TheVariants.{NotSaid, OtherName, NoChild, NoParent, Calls, Certificate, Full, Twin}
use Rattle.rignolda_wire.specs.declared.said.Expect.{Expect}
use Rattle.rignolda_wire.specs.declared.said.Expect.TheVariants.{Hello, Way, NumberedWay, Frames, SignedFrames, Acks}
use Rattle.rignolda_wire.specs.Reading.{◌>>=◌, Reader, candidate_at, child_at, counted_at, fourth_at, give, greeting_at, hello_at, letter_at, limited_at, message_at, names_at, number_at, numbered_at, numbering_candidate_at, parent_at, signing_parent_at, version_at, way_at}
use Rattle.rignolda_wire.specs.Refusals.{behind_letter, byte_of, is_look, reason, reason_or_none, refusal_of, refused, told, told_first, told_last}
use Rattle.rignolda_wire.specs.Said.{Greeted, IsGreeting, IsMessage, Said, ack, asks, filler, frame, goodbye, hello, lacks, numbered, refers, refers_signed, report, signed, spelling, way}
use Rattle.rignolda_wire.specs.Seen.{AreBytes}
use Rattle.rignolda_wire.specs.Words.{Headed, down, first_of, head_at, head_of, headed_bytes, hello_of, reports_of, word_at, word_bytes}
use Rattle.rignolda_wire.proofs.Codecs.{Any, IsCodec, codec_after, codec_map}
use Rattle.rignolda_wire.proofs.Parts.{codec_number, wide16, wide32}
use Rattle.rignolda_wire.proofs.Others.{codec_behind}
use Rattle.rignolda_wire.proofs.Fronts.{again, spelled}

-- ---- reasons

-- each byte says its reason
byte_again : (why : Refusal) → refusal_of (byte_of why) ≡ why
byte_again NotSaid = refl
byte_again OtherName = refl
byte_again NoChild = refl
byte_again NoParent = refl
byte_again Calls = refl
byte_again Certificate = refl
byte_again Full = refl
byte_again Twin = refl

pub first_understood : (why : Refusal) → refused Hello (told Hello why) ≡ Some why
first_understood NotSaid = refl
first_understood OtherName = refl
first_understood NoChild = refl
first_understood NoParent = refl
first_understood Calls = refl
first_understood Certificate = refl
first_understood Full = refl
first_understood Twin = refl

some_again : (why : Refusal) → (let s : Option Refusal = Some (refusal_of (byte_of why)) in s) ≡ Some why
some_again why = ap (λ (w : Refusal). Some w) (byte_again why)

pub last_understood : (why : Refusal) → (refused Frames (told Frames why) ≡ Some why) × (refused SignedFrames (told SignedFrames why) ≡ Some why)
last_understood why = (some_again why, some_again why)

-- no such front is refused, and more has to come
first_waits : (why : Refusal) → message_at Hello (told Hello why) ≡ Err More
unfolding hello_at letter_at fourth_at greeting_at version_at
first_waits NotSaid = refl
first_waits OtherName = refl
first_waits NoChild = refl
first_waits NoParent = refl
first_waits Calls = refl
first_waits Certificate = refl
first_waits Full = refl
first_waits Twin = refl

last_waits : (why : Refusal) → message_at Frames (told Frames why) ≡ Err More
unfolding parent_at way_at names_at counted_at limited_at
last_waits NotSaid = refl
last_waits OtherName = refl
last_waits NoChild = refl
last_waits NoParent = refl
last_waits Calls = refl
last_waits Certificate = refl
last_waits Full = refl
last_waits Twin = refl

new_last_waits : (why : Refusal) → message_at SignedFrames (told SignedFrames why) ≡ Err More
unfolding signing_parent_at numbered_at
new_last_waits NotSaid = refl
new_last_waits OtherName = refl
new_last_waits NoChild = refl
new_last_waits NoParent = refl
new_last_waits Calls = refl
new_last_waits Certificate = refl
new_last_waits Full = refl
new_last_waits Twin = refl

nothing_waits : (message_at Way [] ≡ Err More) × ((message_at NumberedWay [] ≡ Err More) × (message_at Acks [] ≡ Err More))
unfolding candidate_at numbering_candidate_at child_at
nothing_waits = (refl, (refl, refl))

pub told_waits : (expect : Expect) (why : Refusal) → message_at expect (told expect why) ≡ Err More
told_waits Hello why = first_waits why
told_waits Frames why = last_waits why
told_waits SignedFrames why = new_last_waits why
told_waits Way why = nothing_waits.0
told_waits NumberedWay why = nothing_waits.1.0
told_waits Acks why = nothing_waits.1.1

chosen : (byte n : ℕ) (one other why : Refusal) → cond (byte == n) one other ≡ why → ((byte ≡ n) × (one ≡ why)) ⊎ (other ≡ why)
chosen byte n one other why is = by_test (byte == n) refl is
  where
    by_test : (test : Bool) → (byte == n) ≡ test → cond test one other ≡ why → ((byte ≡ n) × (one ≡ why)) ⊎ (other ≡ why)
    by_test true so one_is = inl (eqb-true byte n so, one_is)
    by_test false so other_is = inr other_is

-- a reason that is said is that of one byte alone
byte_is : (byte : ℕ) (why : Refusal) → why ≢ NotSaid → refusal_of byte ≡ why → byte ≡ byte_of why
byte_is byte why said is =
    elim (chosen byte 1 OtherName _ why is) [
      | inl (n, e) ↦ n ∙ ap byte_of e
      | inr on_2 ↦ elim (chosen byte 2 NoChild _ why on_2) [
        | inl (n, e) ↦ n ∙ ap byte_of e
        | inr on_3 ↦ elim (chosen byte 3 NoParent _ why on_3) [
          | inl (n, e) ↦ n ∙ ap byte_of e
          | inr on_4 ↦ elim (chosen byte 4 Calls _ why on_4) [
            | inl (n, e) ↦ n ∙ ap byte_of e
            | inr on_5 ↦ elim (chosen byte 5 Certificate _ why on_5) [
              | inl (n, e) ↦ n ∙ ap byte_of e
              | inr on_6 ↦ elim (chosen byte 6 Full _ why on_6) [
                | inl (n, e) ↦ n ∙ ap byte_of e
                | inr on_7 ↦ elim (chosen byte 7 Twin NotSaid why on_7) [
                  | inl (n, e) ↦ n ∙ ap byte_of e
                  | inr none ↦ absurd (said (sym none))
                ]
              ]
            ]
          ]
        ]
      ]
    ]

some_if : {A : Type 0} (test : Bool) (one : Option A) (why : A) → cond test one None ≡ Some why → (test ≡ true) × (one ≡ Some why)
some_if true one why is = (refl, is)
some_if false one why is = absurd cc

some_is : {A : Type 0} (a b : A) → (let s : Option A = Some a in s) ≡ Some b → a ≡ b
some_is a b is = cc

reason_is : (bytes : List ℕ) (why : Refusal) → why ≢ NotSaid → reason bytes ≡ Some why → bytes ≡ 255 ∷ byte_of why ∷ []
reason_is [] why said is = absurd cc
reason_is (mark ∷ []) why said is = absurd cc
reason_is (mark ∷ byte ∷ []) why said is =
    let (marked, so) = some_if (mark == 255) (Some (refusal_of byte)) why is in
    ap (λ n. n ∷ byte ∷ []) (eqb-true mark 255 marked) ∙ ap (λ n. 255 ∷ n ∷ []) (byte_is byte why said (some_is (refusal_of byte) why so))
reason_is (mark ∷ byte ∷ more ∷ bytes) why said is = absurd cc

reason_or_none_is : (bytes : List ℕ) (why : Refusal) → why ≢ NotSaid → reason_or_none bytes ≡ Some why → bytes ≡ 255 ∷ byte_of why ∷ []
reason_or_none_is [] why said is = absurd (said (sym (some_is NotSaid why is)))
reason_or_none_is (byte ∷ bytes) why said is = reason_is (byte ∷ bytes) why said is

told_so : (why : Refusal) → why ≢ NotSaid → 82 ∷ 71 ∷ 78 ∷ 76 ∷ 2 ∷ 255 ∷ byte_of why ∷ [] ≡ told_first why
told_so NotSaid said = absurd (said refl)
told_so OtherName said = refl
told_so NoChild said = refl
told_so NoParent said = refl
told_so Calls said = refl
told_so Certificate said = refl
told_so Full said = refl
told_so Twin said = refl

both : (a b : Bool) → (a && b) ≡ true → (a ≡ true) × (b ≡ true)
both true b is = (refl, is)
both false b is = absurd cc

look_is : (r g n l version : ℕ) (why : List ℕ) → is_look r g n l version ≡ true
    → r ∷ g ∷ n ∷ l ∷ version ∷ why ≡ 82 ∷ 71 ∷ 78 ∷ 76 ∷ 2 ∷ why
look_is r g n l version why is =
    let (four, fifth) = both (r == 82 && g == 71 && n == 78 && l == 76) (version == 2) is in
    let (three, fourth) = both (r == 82 && g == 71 && n == 78) (l == 76) four in
    let (two, third) = both (r == 82 && g == 71) (n == 78) three in
    let (first, second) = both (r == 82) (g == 71) two in
    rw (eqb-true r 82 first, eqb-true g 71 second, eqb-true n 78 third, eqb-true l 76 fourth, eqb-true version 2 fifth) refl

last_was_told : (letter : ℕ) (bytes : List ℕ) (why : Refusal) → why ≢ NotSaid → behind_letter letter bytes ≡ Some why → bytes ≡ told_last letter why
last_was_told letter [] why said is = absurd cc
last_was_told letter (first ∷ rest) why said is =
    let (begins, so) = some_if (first == letter) (reason rest) why is in
    ap (λ n. n ∷ rest) (eqb-true first letter begins) ∙ ap (λ (text : List ℕ). letter ∷ text) (reason_is rest why said so)

pub was_told : (expect : Expect) (bytes : List ℕ) (why : Refusal) → why ≢ NotSaid → refused expect bytes ≡ Some why → bytes ≡ told expect why
was_told Hello (r ∷ g ∷ n ∷ l ∷ version ∷ rest) why said is =
    let (look, so) = some_if (is_look r g n l version) (reason_or_none rest) why is in
    look_is r g n l version rest look ∙ ap (λ (text : List ℕ). 82 ∷ 71 ∷ 78 ∷ 76 ∷ 2 ∷ text) (reason_or_none_is rest why said so) ∙ told_so why said
was_told Frames bytes why said is = last_was_told 87 bytes why said is
was_told SignedFrames bytes why said is = last_was_told 86 bytes why said is
was_told expect bytes why said is = absurd cc

-- ---- words

known_hello : (read : Result (Said × List ℕ) Fault) (x : Greeted × List ℕ) → hello_of read ≡ Some x → read ≡ Ok (hello false x.0, x.1)
known_hello (Ok (hello false g, rest)) x is = ap (λ (y : Greeted × List ℕ). Ok (hello false y.0, y.1)) (some_is (g, rest) x is)
known_hello (Ok (hello true g, rest)) x is = absurd cc
known_hello (Ok (way w, rest)) x is = absurd cc
known_hello (Ok (frame f, rest)) x is = absurd cc
known_hello (Ok (refers r, rest)) x is = absurd cc
known_hello (Ok (asks, rest)) x is = absurd cc
known_hello (Ok (ack l, rest)) x is = absurd cc
known_hello (Ok (lacks l, rest)) x is = absurd cc
known_hello (Ok (report t, rest)) x is = absurd cc
known_hello (Ok (goodbye, rest)) x is = absurd cc
known_hello (Ok (numbered n, rest)) x is = absurd cc
known_hello (Ok (signed f, rest)) x is = absurd cc
known_hello (Ok (refers_signed r, rest)) x is = absurd cc
known_hello (Ok (filler label, rest)) x is = absurd cc
known_hello (Err fault) x is = absurd cc

pub word_again : (g : Greeted) (rest : List ℕ) → IsGreeting 1 g → word_at (spelling (hello false g) ++ rest) ≡ Some (g, rest)
word_again g rest is = ap hello_of (again Hello (hello false g) rest is)

pub down_again : (g : Greeted) → IsGreeting 1 g → word_at (word_bytes (down g)) ≡ Some (g, [])
down_again g is = ap word_at (sym (append-nil (spelling (hello false g)))) ∙ word_again g [] is

pub message_again : (expect : Expect) (m : Said) → IsMessage expect m → message_at expect (spelling m) ≡ Ok (m, [])
message_again expect m is = ap (message_at expect) (sym (append-nil (spelling m))) ∙ again expect m [] is

pub count_again : (n : ℕ) → n < 2 ^ 32 → reports_of (to_be_bytes w32 n) ≡ Some n
count_again n low = ap (λ (m : ℕ). Some m) (from_be_bytes-to_be_bytes_4 n low)

pub word_spelled : (bytes : List ℕ) (x : Greeted × List ℕ) → AreBytes bytes → word_at bytes ≡ Some x
    → IsGreeting 1 x.0 × (bytes ≡ spelling (hello false x.0) ++ x.1)
word_spelled bytes x are is = spelled Hello bytes (hello false x.0, x.1) are (known_hello (message_at Hello bytes) x is)

-- ---- heads of frames

abbrev IsHeaded : Headed → Type 0
IsHeaded h = (h.label < 2 ^ 16) × ((h.item < 2 ^ 32) × (h.len < 2 ^ 32))

abbrev heads : ℕ → ℕ → ℕ → Headed
heads label item len = record { label = label; item = item; len = len }

abbrev with_len : ℕ → ℕ → Reader Headed
with_len label item = number_at w32 >>= λ len. give (heads label item len)

abbrev Labelled : ℕ → Headed → Type 0
Labelled label h = (h.label ≡ label) × Any h

codec_head : IsCodec Headed Any IsHeaded headed_bytes 11 head_at
unfolding head_at
codec_head =
    codec_behind 70 (number_at w16 >>= λ label. number_at w32 >>= with_len label) (omega arith) refl
    (codec_after (λ (h : Headed). h.label) (λ label. number_at w32 >>= with_len label) (codec_number w16 (2 ^ 16) wide16)
    (λ label _. codec_after {K = Labelled label} (λ (h : Headed). h.item) (with_len label) (codec_number w32 (2 ^ 32) wide32)
    (λ item _. codec_map (λ h. (h.item ≡ item) × Labelled label h) (λ h. h.len < 2 ^ 32) (λ h. to_be_bytes w32 h.len) (heads label item) (codec_number w32 (2 ^ 32) wide32)
    (λ len low. ((refl, (refl, tt)), low, refl))
    (λ h known low. (h.len, rw (← known.0, ← known.1.0) refl, low)))))

pub head_again : (h : Headed) (rest : List ℕ) → h.label < 2 ^ 16 → h.item < 2 ^ 32 → h.len < 2 ^ 32 → head_of (headed_bytes h ++ rest) ≡ Some h
head_again h rest label item len = ap first_of (codec_head.again h rest tt (label, (item, len)))

known_head : (read : Result (Headed × List ℕ) Fault) (h : Headed) → first_of read ≡ Some h → (rest : List ℕ) × (read ≡ Ok (h, rest))
known_head (Ok x) h is = (x.1, ap (λ (y : Headed). Ok (y, x.1)) (some_is x.0 h is))
known_head (Err fault) h is = absurd cc

pub head_spelled : (bytes : List ℕ) (h : Headed) → AreBytes bytes → head_of bytes ≡ Some h → (rest : List ℕ) × (bytes ≡ headed_bytes h ++ rest)
head_spelled bytes h are is = let (rest, read) = known_head (head_at bytes) h is in (rest, (codec_head.told bytes (h, rest) are read).whole)
