-- What fits is a body, and counts follow the settings.
use Rattle.std.proofs.Common.{◌≡◌, ℕ, ◌+◌, ◌-◌, ◌<◌, ◌≤◌, ◌^◌, Bool, true, false, List, [], ◌∷◌, ◌++◌, length, refl, sym, ap, ap₂, subst, ◌∙◌, arith, inl, inr}
use Rattle.std.specs.Prelude.{◌&&◌, ◌||◌, not, nat_le, nat_lt, min, if◌then◌else◌}
use Rattle.std.specs.List.{flat_map}
use Rattle.std.proofs.lemmas.Bool.{and_parts, and_from, cases_lt, le-leb, le-ltb, lt-ltb, leb-true, or_right}
use Rattle.std.proofs.lemmas.List.{length-append, append-nil}
use Rattle.std.proofs.lemmas.List.Concat.{flat_map-append}
use Rattle.rignolda_agent.specs.declared.body.Kind.{Kind}
use Rattle.rignolda_agent.specs.declared.body.Kind.TheVariants.{Table}
use Rattle.rignolda_agent.specs.declared.room.Room.{Room}
use Rattle.rignolda_agent.specs.BodySpelling.{Body, FollowEachOther, IsBody, Setting, body_limit, entry_bytes, head_bytes, settings_limit, spelling}
use Rattle.rignolda_agent.specs.Publishers.{highest}
use Rattle.rignolda_agent.specs.Takers.{Taker, after, after_if, fills, follows, is_table, looks, takes}
use Rattle.rignolda_agent.specs.Rooms.{changed, counted, entries_limit, fits, one_if_any, room_of, table_of}

-- the head of a table has 13 bytes
table_length : (number : ℕ) (settings : List Setting)
    → length (spelling (table_of number settings)) ≡ 13 + length (flat_map entry_bytes settings)
table_length number settings = length-append (head_bytes Table number (length settings)) (flat_map entry_bytes settings)

pub what_fits : (number : ℕ) (settings : List Setting) → number < 2 ^ 64 → FollowEachOther Table [] settings
    → fits (room_of settings) ≡ true → IsBody (table_of number settings)
what_fits number settings below follow is =
    let parts = and_parts (nat_le (length settings) settings_limit) (nat_le (length (flat_map entry_bytes settings)) entries_limit) is in
    record {
      number = below;
      settings = follow;
      few = leb-true (length settings) settings_limit parts.0;
      short = omega (arith, table_length number settings, leb-true (length (flat_map entry_bytes settings)) entries_limit parts.1);
    }

pub no_others : (number : ℕ) (settings : List Setting) → IsBody (table_of number settings) → fits (room_of settings) ≡ true
no_others number settings is =
    and_from (nat_le (length settings) settings_limit) (nat_le (length (flat_map entry_bytes settings)) entries_limit)
    (le-leb (length settings) settings_limit is.few)
    (le-leb (length (flat_map entry_bytes settings)) entries_limit (omega (arith, table_length number settings, is.short)))

-- ---- counts

-- a count below the highest, with more and with less
counted_is : (count more less : ℕ) → count + more ≤ highest → counted count more less ≡ count + more - less
counted_is count more less below = ap (λ n. n - less) (lesser (count + more) highest below)
  where
    lesser : (m n : ℕ) → m ≤ n → min m n ≡ m
    lesser m n le = omega (arith, le)

-- one setting at most takes bytes exactly if it is there
one_entry : (ss : List Setting) → length ss ≤ 1 → one_if_any (length (flat_map entry_bytes ss)) ≡ length ss
one_entry [] few = refl
one_entry (s ∷ []) few = ap (λ t. if t then 1 else 0) (lt-ltb 0 (length (entry_bytes s ++ [])) (omega arith))
one_entry (s ∷ t ∷ ss) few = absurd (omega (arith, few))

-- what settings take that are between others
bytes_between : (before middle after : List Setting)
    → length (flat_map entry_bytes (before ++ (middle ++ after)))
    ≡ length (flat_map entry_bytes before) + (length (flat_map entry_bytes middle) + length (flat_map entry_bytes after))
bytes_between before middle after =
    ap length (flat_map-append entry_bytes before (middle ++ after)) ∙ length-append (flat_map entry_bytes before) (flat_map entry_bytes (middle ++ after))
    ∙ ap (λ n. length (flat_map entry_bytes before) + n) (ap length (flat_map-append entry_bytes middle after) ∙ length-append (flat_map entry_bytes middle) (flat_map entry_bytes after))

count_between : (before middle after : List Setting) → length (before ++ (middle ++ after)) ≡ length before + (length middle + length after)
count_between before middle after =
    length-append before (middle ++ after) ∙ ap (λ n. length before + n) (length-append middle after)

abbrev counts : ℕ → ℕ → Room
counts settings bytes = record { settings = settings; bytes = bytes }

pub counts_follow : (before had has after : List Setting) → length had ≤ 1 → length has ≤ 1
    → length (before ++ (had ++ after)) + length has ≤ highest
    → length (flat_map entry_bytes (before ++ (had ++ after))) + length (flat_map entry_bytes has) ≤ highest
    → changed (room_of (before ++ (had ++ after))) (length (flat_map entry_bytes had)) (length (flat_map entry_bytes has))
    ≡ room_of (before ++ (has ++ after))
counts_follow before had has after few_had few_has below short =
    ap₂ counts settings bytes
  where
    all_had : List Setting
    all_had = before ++ (had ++ after)

    settings : counted (length all_had) (one_if_any (length (flat_map entry_bytes has))) (one_if_any (length (flat_map entry_bytes had))) ≡ length (before ++ (has ++ after))
    settings =
        ap₂ (counted (length all_had)) (one_entry has few_has) (one_entry had few_had)
        ∙ counted_is (length all_had) (length has) (length had) below
        ∙ omega (arith, count_between before had after, count_between before has after)

    bytes : counted (length (flat_map entry_bytes all_had)) (length (flat_map entry_bytes has)) (length (flat_map entry_bytes had)) ≡ length (flat_map entry_bytes (before ++ (has ++ after)))
    bytes =
        counted_is (length (flat_map entry_bytes all_had)) (length (flat_map entry_bytes has)) (length (flat_map entry_bytes had)) short
        ∙ omega (arith, bytes_between before had after, bytes_between before has after)

-- ---- what is left out

pub nothing_is_whole : (t : Taker) (kind : Kind) (number : ℕ) → t.whole ≡ false → is_table kind ≡ false → (after t kind number).whole ≡ false
nothing_is_whole t kind number none not_table = by (takes t number)
  where
    by : (b : Bool) → (after_if b t kind number).whole ≡ false
    by true = ap₂ (λ x y. x || (y && follows t number)) not_table none
    by false = none

pub made_up_for : (t : Taker) (number : ℕ) → t.whole ≡ false → takes t number ≡ true
    → (fills t number ≡ true) × (looks t number ≡ true) × ((after t Table number).whole ≡ true)
made_up_for t number none newer =
    let filled : fills t number ≡ true = ap (λ x. not (x && follows t number)) none in
    (filled, or_right t.in_a_round (fills t number) filled, ap (λ b. (after_if b t Table number).whole) newer)
