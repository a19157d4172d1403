-- What is read was spelled so.
use Rattle.std.proofs.Common.{◌≡◌, ℕ, zero, suc, ◌^◌, ◌<◌, ◌≤◌, inl, inr, true, cond, ltb, List, [], ◌∷◌, ◌++◌, length, Option, Some, None, Result, Ok, Err, refl, sym, ap, subst, ◌∙◌, append_assoc, arith}
use Rattle.std.specs.Prelude.{IfSome, ◌==◌}
use Rattle.std.specs.List.{flat_map}
use Rattle.std.specs.Int.{w32, w64, to_be_bytes}
use Rattle.std.proofs.lemmas.Bool.{eqb-true, ltb-false}
use Rattle.std.proofs.lemmas.List.{append-nil}
use Rattle.std.proofs.lemmas.List.Concat.{flat_map-cons}
use Rattle.rignolda_agent.specs.declared.body.Kind.{Kind}
use Rattle.rignolda_agent.specs.declared.body.Kind.TheVariants.{Changes, Table, Harmless}
use Rattle.rignolda_agent.specs.declared.fault.Fault.{Fault}
use Rattle.rignolda_agent.specs.declared.fault.Fault.TheVariants.{Large, Many, NoKey, NoKind, NoMark, Long, Order, Trailing, Unset}
use Rattle.rignolda_agent.specs.BodySpelling.{Setting, Body, Follows, FollowEachOther, IsBody, body_limit, count_bytes, entry_bytes, is_above, is_allowed, is_key, kind_byte, mark, settings_limit, spelling, value_bytes, value_limit}
use Rattle.rignolda_agent.specs.Reading.{◌>>=◌, body_of, byte_at, checked, count_at, entries_at, entry_at, key_at, kind_at, marked_at, next_at, number_at, said_by, settings_of, text_at, value_at}
use Rattle.rignolda_agent.specs.Seen.{AreBytes}
use Rattle.rignolda_agent.proofs.Heads.{counted}
use Rattle.rignolda_agent.proofs.NumberBytes.{Begins, begins_with_both, wide32, wide64, number_spelled, text_spelled}
use Rattle.rignolda_agent.proofs.Steps.{bind_ok, chosen, not_refused, passed, same}

byte_spelled : (bytes : List ℕ) (x : ℕ × List ℕ) → AreBytes bytes → byte_at bytes ≡ Ok x → Begins bytes (x.0 ∷ []) x.1
byte_spelled [] x are is = absurd cc
byte_spelled (b ∷ rest) x are is =
    subst (λ (y : ℕ × List ℕ). Begins (b ∷ rest) (y.0 ∷ []) y.1) (same (b, rest) x is)
    (record { whole = refl; rest_are = λ i. are (suc i) })

key_spelled : (bytes : List ℕ) (x : List ℕ × List ℕ) → AreBytes bytes → key_at bytes ≡ Ok x
    → Begins bytes (length x.0 ∷ x.0) x.1 × (is_key x.0 ≡ true)
unfolding key_at
key_spelled bytes x are is =
    let (len, len_read, then) = bind_ok (byte_at bytes) _ x is in
    let first = byte_spelled bytes len are len_read in
    let (key, key_read, last) = bind_ok (text_at len.0 len.1) _ x then in
    let (text, as_long) = text_spelled len.0 len.1 key first.rest_are key_read in
    let (good, found) = passed (is_key key.0) NoKey (Ok key) x last in
    let both : Begins bytes (len.0 ∷ key.0) key.1 = begins_with_both bytes (len.0 ∷ []) len.1 key.0 key.1 first text in
    let whole : Begins bytes (length key.0 ∷ key.0) key.1 = subst (λ n. Begins bytes (n ∷ key.0) key.1) (sym as_long) both in
    subst (λ (y : List ℕ × List ℕ). Begins bytes (length y.0 ∷ y.0) y.1 × (is_key y.0 ≡ true)) (same key x found) (whole, good)

value_spelled : (bytes : List ℕ) (x : List ℕ × List ℕ) → AreBytes bytes → value_at bytes ≡ Ok x
    → Begins bytes (to_be_bytes w32 (length x.0) ++ x.0) x.1 × (length x.0 ≤ value_limit)
unfolding value_at
value_spelled bytes x are is =
    let (len, len_read, then) = bind_ok (number_at w32 bytes) _ x is in
    let (first, low) = number_spelled w32 (2 ^ 32) bytes len wide32 are len_read in
    let (in_limit, read) = not_refused (ltb value_limit len.0) Long (text_at len.0 len.1) x then in
    let (text, as_long) = text_spelled len.0 len.1 x first.rest_are read in
    let both = begins_with_both bytes (to_be_bytes w32 len.0) len.1 x.0 x.1 first text in (
      subst (λ n. Begins bytes (to_be_bytes w32 n ++ x.0) x.1) (sym as_long) both,
      omega (arith, as_long, ltb-false value_limit len.0 in_limit),
    )

abbrev IsMarked : ℕ → List ℕ → Option (List ℕ) × List ℕ → Type 0
IsMarked m bytes x = (m ≡ mark x.0) × Begins bytes (value_bytes x.0) x.1 × IfSome x.0 (λ v. length v ≤ value_limit)

marked_spelled : (m : ℕ) (bytes : List ℕ) (x : Option (List ℕ) × List ℕ) → AreBytes bytes → marked_at m bytes ≡ Ok x
    → IsMarked m bytes x
unfolding marked_at
marked_spelled m bytes x are is =
    elim (chosen (m == 83) (value_at bytes >>= λ value. Ok (Some value.0, value.1)) (cond (m == 85) (Ok (None, bytes)) (Err NoMark)) x is) [
      | inl set ↦
          let (value, value_read, found) = bind_ok (value_at bytes) _ x set.1 in
          let (begins, short) = value_spelled bytes value are value_read in
          subst (IsMarked m bytes) (same (Some value.0, value.1) x found) (eqb-true m 83 set.0, begins, short)
      | inr other ↦
          let (unset, found) = passed (m == 85) NoMark (Ok (None, bytes)) x other.1 in
          subst (IsMarked m bytes) (same (None, bytes) x found)
          (eqb-true m 85 unset, record { whole = refl; rest_are = are }, tt)
    ]

abbrev IsEntry : List ℕ → Setting × List ℕ → Type 0
IsEntry bytes x = Begins bytes (entry_bytes x.0) x.1 × (is_key x.0.key ≡ true) × IfSome x.0.value (λ v. length v ≤ value_limit)

pub entry_spelled : (bytes : List ℕ) (x : Setting × List ℕ) → AreBytes bytes → entry_at bytes ≡ Ok x → IsEntry bytes x
unfolding entry_at
entry_spelled bytes x are is =
    let (m, mark_read, then) = bind_ok (byte_at bytes) _ x is in
    let first = byte_spelled bytes m are mark_read in
    let (key, key_read, last) = bind_ok (key_at m.1) _ x then in
    let (second, good) = key_spelled m.1 key first.rest_are key_read in
    let (value, value_read, found) = bind_ok (marked_at m.0 key.1) _ x last in
    let (marked, third, short) = marked_spelled m.0 key.1 value second.rest_are value_read in
    let front = begins_with_both bytes (m.0 ∷ []) m.1 (length key.0 ∷ key.0) key.1 first second in
    let whole : Begins bytes (m.0 ∷ length key.0 ∷ (key.0 ++ value_bytes value.0)) value.1 =
    begins_with_both bytes (m.0 ∷ length key.0 ∷ key.0) key.1 (value_bytes value.0) value.1 front third in
    subst (IsEntry bytes) (same (record { key = key.0; value = value.0 }, value.1) x found) (
      subst (λ n. Begins bytes (n ∷ length key.0 ∷ (key.0 ++ value_bytes value.0)) value.1) marked whole,
      good,
      short,
    )

next_spelled : (kind : Kind) (before bytes : List ℕ) (x : Setting × List ℕ) → AreBytes bytes → next_at kind before bytes ≡ Ok x
    → Begins bytes (entry_bytes x.0) x.1 × Follows kind before x.0
unfolding next_at
next_spelled kind before bytes x are is =
    let (first, read, then) = bind_ok (entry_at bytes) (checked kind before) x is in
    let (begins, good, short) = entry_spelled bytes first are read in
    let (above, last) = passed (is_above before first.0.key) Order (cond (is_allowed kind first.0) (Ok first) (Err Unset)) x then in
    let (allowed, found) = passed (is_allowed kind first.0) Unset (Ok first) x last in
    subst (λ (y : Setting × List ℕ). Begins bytes (entry_bytes y.0) y.1 × Follows kind before y.0) (same first x found)
    (begins, record { key = good; above = above; allowed = allowed; value = short })

abbrev AreNext : Kind → List ℕ → List ℕ → List Setting × List ℕ → Type 0
AreNext kind before bytes x = Begins bytes (flat_map entry_bytes x.0) x.1 × FollowEachOther kind before x.0

entries_spelled : (kind : Kind) (before : List ℕ) (count : ℕ) (bytes : List ℕ) (x : List Setting × List ℕ) → AreBytes bytes
    → entries_at kind before count bytes ≡ Ok x → AreNext kind before bytes x
unfolding entries_at
entries_spelled kind before zero bytes x are is =
    subst (AreNext kind before bytes) (same ([], bytes) x is) (record { whole = refl; rest_are = are }, tt)
entries_spelled kind before (suc count) bytes x are is =
    let (first, read, then) = bind_ok (next_at kind before bytes) _ x is in
    let (begins, follows) = next_spelled kind before bytes first are read in
    let (others, others_read, found) = bind_ok (entries_at kind first.0.key count first.1) _ x then in
    let (go_on, follow) = entries_spelled kind first.0.key count first.1 others begins.rest_are others_read in
    let both = begins_with_both bytes (entry_bytes first.0) first.1 (flat_map entry_bytes others.0) others.1 begins go_on in
    subst (AreNext kind before bytes) (same (first.0 ∷ others.0, others.1) x found) (
      subst (λ (text : List ℕ). Begins bytes text others.1) (sym (flat_map-cons entry_bytes first.0 others.0)) both,
      (follows, follow),
    )

some_spelled : (bytes : List ℕ) (x : ℕ × List ℕ) → AreBytes bytes → count_at Table bytes ≡ Ok x
    → Begins bytes (to_be_bytes w32 x.0) x.1 × (x.0 ≤ settings_limit)
unfolding count_at
some_spelled bytes x are is =
    let (count, read, then) = bind_ok (number_at w32 bytes) _ x is in
    let (begins, low) = number_spelled w32 (2 ^ 32) bytes count wide32 are read in
    let (in_limit, found) = not_refused (ltb settings_limit count.0) Many (Ok count) x then in
    subst (λ (y : ℕ × List ℕ). Begins bytes (to_be_bytes w32 y.0) y.1 × (y.0 ≤ settings_limit)) (same count x found)
    (begins, ltb-false settings_limit count.0 in_limit)

count_spelled : (kind : Kind) (bytes : List ℕ) (x : ℕ × List ℕ) → AreBytes bytes → count_at kind bytes ≡ Ok x
    → Begins bytes (count_bytes kind x.0) x.1 × (x.0 ≤ settings_limit)
unfolding count_at
count_spelled Changes bytes x are is = some_spelled bytes x are is
count_spelled Table bytes x are is = some_spelled bytes x are is
count_spelled Harmless bytes x are is =
    subst (λ (y : ℕ × List ℕ). Begins bytes [] y.1 × (y.0 ≤ settings_limit)) (same (0, bytes) x is)
    (record { whole = refl; rest_are = are }, omega arith)

-- nothing follows
ended : (rest : List ℕ) → (length rest == 0) ≡ true → rest ≡ []
ended [] none = refl
ended (b ∷ rest) none = let never = eqb-true (length (b ∷ rest)) 0 none in absurd (omega (arith, never))

abbrev AreAll : Kind → List ℕ → List Setting → Type 0
AreAll kind bytes ss = (bytes ≡ count_bytes kind (length ss) ++ flat_map entry_bytes ss) × FollowEachOther kind [] ss × (length ss ≤ settings_limit)

settings_spelled : (kind : Kind) (bytes : List ℕ) (ss : List Setting) → AreBytes bytes → settings_of kind bytes ≡ Ok ss
    → AreAll kind bytes ss
unfolding settings_of
settings_spelled kind bytes ss are is =
    let (count, count_read, then) = bind_ok (count_at kind bytes) _ ss is in
    let (first, few) = count_spelled kind bytes count are count_read in
    let (all, all_read, last) = bind_ok (entries_at kind [] count.0 count.1) _ ss then in
    let (begins, follow) = entries_spelled kind [] count.0 count.1 all first.rest_are all_read in
    let as_many = counted kind [] count.0 count.1 all all_read in
    let (none, found) = passed (length all.1 == 0) Trailing (Ok all.0) ss last in
    let settings : count.1 ≡ flat_map entry_bytes all.0 =
    begins.whole ∙ ap (λ (rest : List ℕ). flat_map entry_bytes all.0 ++ rest) (ended all.1 none) ∙ append-nil (flat_map entry_bytes all.0) in
    subst (AreAll kind bytes) (same all.0 ss found) (
      first.whole ∙ ap (λ (rest : List ℕ). count_bytes kind count.0 ++ rest) settings
          ∙ ap (λ n. count_bytes kind n ++ flat_map entry_bytes all.0) (sym as_many),
      follow,
      omega (arith, few, as_many),
    )

abbrev of_kind : Kind × List ℕ → Result (Kind × List ℕ) Fault
of_kind x = Ok x

kind_spelled : (bytes : List ℕ) (x : Kind × List ℕ) → AreBytes bytes → kind_at bytes ≡ Ok x
    → Begins bytes (kind_byte x.0 ∷ []) x.1
unfolding kind_at
kind_spelled bytes x are is =
    let (byte, read, then) = bind_ok (byte_at bytes) _ x is in
    let begins = byte_spelled bytes byte are read in
    elim (chosen (byte.0 == 67) (Ok (Changes, byte.1)) (cond (byte.0 == 84) (Ok (Table, byte.1)) (cond (byte.0 == 72) (Ok (Harmless, byte.1)) (Err NoKind))) x then) [
      | inl changes ↦ named Changes byte begins (eqb-true byte.0 67 changes.0) changes.1
      | inr other ↦
          elim (chosen (byte.0 == 84) (Ok (Table, byte.1)) (cond (byte.0 == 72) (Ok (Harmless, byte.1)) (Err NoKind)) x other.1) [
            | inl table ↦ named Table byte begins (eqb-true byte.0 84 table.0) table.1
            | inr last ↦
                let (harmless, found) = passed (byte.0 == 72) NoKind (Ok (Harmless, byte.1)) x last.1 in
                named Harmless byte begins (eqb-true byte.0 72 harmless) found
          ]
    ]
  where
    named : (kind : Kind) (byte : ℕ × List ℕ) → Begins bytes (byte.0 ∷ []) byte.1 → byte.0 ≡ kind_byte kind
        → of_kind (kind, byte.1) ≡ Ok x → Begins bytes (kind_byte x.0 ∷ []) x.1
    named kind byte begins is_it found =
        subst (λ (y : Kind × List ℕ). Begins bytes (kind_byte y.0 ∷ []) y.1) (same (kind, byte.1) x found)
        (subst (λ n. Begins bytes (n ∷ []) byte.1) is_it begins)

said_spelled : (bytes : List ℕ) (b : Body) → AreBytes bytes → said_by bytes ≡ Ok b
    → (bytes ≡ spelling b) × (b.number < 2 ^ 64) × FollowEachOther b.kind [] b.settings × (length b.settings ≤ settings_limit)
unfolding said_by
said_spelled bytes b are is =
    let (kind, kind_read, then) = bind_ok (kind_at bytes) _ b is in
    let first = kind_spelled bytes kind are kind_read in
    let (number, number_read, last) = bind_ok (number_at w64 kind.1) _ b then in
    let (second, low) = number_spelled w64 (2 ^ 64) kind.1 number wide64 first.rest_are number_read in
    let (ss, settings_read, found) = bind_ok (settings_of kind.0 number.1) _ b last in
    let (third, follow, few) = settings_spelled kind.0 number.1 ss second.rest_are settings_read in
    let head_begins = begins_with_both bytes (kind_byte kind.0 ∷ []) kind.1 (to_be_bytes w64 number.0) number.1 first second in
    let body : Body = record { kind = kind.0; number = number.0; settings = ss } in
    let text : bytes ≡ spelling body =
    head_begins.whole
    ∙ ap (λ (rest : List ℕ). (kind_byte kind.0 ∷ to_be_bytes w64 number.0) ++ rest) third
    ∙ sym (append_assoc (kind_byte kind.0 ∷ to_be_bytes w64 number.0) (count_bytes kind.0 (length ss)) (flat_map entry_bytes ss)) in
    subst (λ (c : Body). (bytes ≡ spelling c) × (c.number < 2 ^ 64) × FollowEachOther c.kind [] c.settings × (length c.settings ≤ settings_limit))
    (same body b found) (text, low, follow, few)

pub body_spelled : (bytes : List ℕ) (b : Body) → AreBytes bytes → body_of bytes ≡ Ok b → IsBody b × (bytes ≡ spelling b)
unfolding body_of
body_spelled bytes b are is =
    let (in_limit, read) = not_refused (ltb body_limit (length bytes)) Large (said_by bytes) b is in
    let (text, low, follow, few) = said_spelled bytes b are read in (
      record {
        number = low;
        settings = follow;
        few = few;
        short = omega (arith, ap length text, ltb-false body_limit (length bytes) in_limit);
      },
      text,
    )
