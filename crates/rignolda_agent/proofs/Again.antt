-- What is spelled is read again.
use Rattle.std.proofs.Common.{◌≡◌, ℕ, suc, ◌^◌, ◌≤◌, true, false, ltb, List, [], ◌∷◌, ◌++◌, length, Option, Some, None, Ok, refl, sym, ap, ◌∙◌, append_assoc, arith}
use Rattle.std.specs.Prelude.{IfSome}
use Rattle.std.specs.List.{flat_map}
use Rattle.std.specs.Int.{w32, w64, to_be_bytes}
use Rattle.std.proofs.lemmas.Bool.{le-ltb}
use Rattle.std.proofs.lemmas.List.{append-nil}
use Rattle.std.proofs.lemmas.List.Concat.{flat_map-cons}
use Rattle.rignolda_agent.specs.declared.body.Kind.{Kind}
use Rattle.rignolda_agent.specs.declared.body.Kind.TheVariants.{Changes, Table, Harmless}
use Rattle.rignolda_agent.specs.BodySpelling.{Setting, Body, Follows, FollowEachOther, IsBody, body_limit, count_bytes, entry_bytes, is_key, kind_byte, mark, settings_limit, spelling, value_bytes, value_limit}
use Rattle.rignolda_agent.specs.Reading.{◌>>=◌, body_of, checked, count_at, entries_at, entry_at, key_at, kind_at, marked_at, next_at, said_by, settings_of, value_at}
use Rattle.rignolda_agent.specs.Seen.{AreEntries}
use Rattle.rignolda_agent.proofs.NumberBytes.{wide32, wide64, number_again, text_again}

key_again : (key rest : List ℕ) → is_key key ≡ true → key_at (length key ∷ (key ++ rest)) ≡ Ok (key, rest)
unfolding key_at
key_again key rest is = rw (text_again key rest, is) refl

value_again : (value rest : List ℕ) → length value ≤ value_limit
    → value_at (to_be_bytes w32 (length value) ++ (value ++ rest)) ≡ Ok (value, rest)
unfolding value_at
value_again value rest short =
    let in_limit : ltb value_limit (length value) ≡ false = le-ltb _ _ short in
    rw (number_again w32 (2 ^ 32) (length value) (value ++ rest) wide32 (omega (arith, short)), in_limit, text_again value rest) refl

marked_again : (value : Option (List ℕ)) (rest : List ℕ) → IfSome value (λ v. length v ≤ value_limit)
    → marked_at (mark value) (value_bytes value ++ rest) ≡ Ok (value, rest)
unfolding marked_at
marked_again None rest short = refl
marked_again (Some value) rest short =
    ap (λ bytes. value_at bytes >>= λ v. Ok (Some v.0, v.1)) (append_assoc (to_be_bytes w32 (length value)) value rest)
    ∙ rw (value_again value rest short) refl

entry_again : (s : Setting) (rest : List ℕ) → is_key s.key ≡ true → IfSome s.value (λ v. length v ≤ value_limit)
    → entry_at (entry_bytes s ++ rest) ≡ Ok (s, rest)
unfolding entry_at
entry_again s rest key short =
    ap (λ bytes. entry_at (mark s.value ∷ length s.key ∷ bytes)) (append_assoc s.key (value_bytes s.value) rest)
    ∙ rw (key_again s.key (value_bytes s.value ++ rest) key, marked_again s.value rest short) refl

next_again : (kind : Kind) (before : List ℕ) (s : Setting) (rest : List ℕ) → Follows kind before s
    → next_at kind before (entry_bytes s ++ rest) ≡ Ok (s, rest)
unfolding next_at
next_again kind before s rest follows =
    ap (λ read. read >>= checked kind before) (entry_again s rest follows.key follows.value)
    ∙ rw (follows.above, follows.allowed) refl

entries_again : (kind : Kind) (before : List ℕ) (ss : List Setting) (rest : List ℕ) → FollowEachOther kind before ss
    → entries_at kind before (length ss) (flat_map entry_bytes ss ++ rest) ≡ Ok (ss, rest)
unfolding entries_at
entries_again kind before [] rest follow = refl
entries_again kind before (s ∷ ss) rest follow =
    let regrouped : flat_map entry_bytes (s ∷ ss) ++ rest ≡ entry_bytes s ++ (flat_map entry_bytes ss ++ rest) =
    ap (λ (x : List ℕ). x ++ rest) (flat_map-cons entry_bytes s ss) ∙ append_assoc (entry_bytes s) (flat_map entry_bytes ss) rest in
    ap (entries_at kind before (suc (length ss))) regrouped
    ∙ rw (next_again kind before s (flat_map entry_bytes ss ++ rest) follow.0, entries_again kind s.key ss rest follow.1) refl

all_again : (kind : Kind) (ss : List Setting) → FollowEachOther kind [] ss
    → entries_at kind [] (length ss) (flat_map entry_bytes ss) ≡ Ok (ss, [])
all_again kind ss follow =
    ap (entries_at kind [] (length ss)) (sym (append-nil (flat_map entry_bytes ss))) ∙ entries_again kind [] ss [] follow

some_again : (count : ℕ) (rest : List ℕ) → count ≤ settings_limit
    → count_at Table (to_be_bytes w32 count ++ rest) ≡ Ok (count, rest)
unfolding count_at
some_again count rest few =
    let in_limit : ltb settings_limit count ≡ false = le-ltb _ _ few in
    rw (number_again w32 (2 ^ 32) count rest wide32 (omega (arith, few)), in_limit) refl

-- a harmless body has no settings
none : (ss : List Setting) → FollowEachOther Harmless [] ss → ss ≡ []
none [] follow = refl
none (s ∷ ss) follow = let never : false ≡ true = follow.0.allowed in cc

count_again : (kind : Kind) (ss : List Setting) (rest : List ℕ) → FollowEachOther kind [] ss → length ss ≤ settings_limit
    → count_at kind (count_bytes kind (length ss) ++ rest) ≡ Ok (length ss, rest)
unfolding count_at
count_again Changes ss rest follow few = some_again (length ss) rest few
count_again Table ss rest follow few = some_again (length ss) rest few
count_again Harmless ss rest follow few = ap (λ (all : List Setting). Ok (length all, rest)) (sym (none ss follow))

settings_again : (kind : Kind) (ss : List Setting) → FollowEachOther kind [] ss → length ss ≤ settings_limit
    → settings_of kind (count_bytes kind (length ss) ++ flat_map entry_bytes ss) ≡ Ok ss
unfolding settings_of
settings_again kind ss follow few = rw (count_again kind ss (flat_map entry_bytes ss) follow few, all_again kind ss follow) refl

kind_again : (kind : Kind) (rest : List ℕ) → kind_at (kind_byte kind ∷ rest) ≡ Ok (kind, rest)
unfolding kind_at
kind_again Changes rest = refl
kind_again Table rest = refl
kind_again Harmless rest = refl

said_again : (b : Body) → IsBody b → said_by (spelling b) ≡ Ok b
unfolding said_by
said_again b is =
    let regrouped : (to_be_bytes w64 b.number ++ count_bytes b.kind (length b.settings)) ++ flat_map entry_bytes b.settings
    ≡ to_be_bytes w64 b.number ++ (count_bytes b.kind (length b.settings) ++ flat_map entry_bytes b.settings) =
    append_assoc (to_be_bytes w64 b.number) (count_bytes b.kind (length b.settings)) (flat_map entry_bytes b.settings) in
    ap (λ bytes. said_by (kind_byte b.kind ∷ bytes)) regrouped
    ∙ rw (
      kind_again b.kind (to_be_bytes w64 b.number ++ (count_bytes b.kind (length b.settings) ++ flat_map entry_bytes b.settings)),
      number_again w64 (2 ^ 64) b.number (count_bytes b.kind (length b.settings) ++ flat_map entry_bytes b.settings) wide64 is.number,
      settings_again b.kind b.settings is.settings is.few,
    ) refl

pub body_again : (b : Body) → IsBody b → body_of (spelling b) ≡ Ok b
unfolding body_of
body_again b is =
    let in_limit : ltb body_limit (length (spelling b)) ≡ false = le-ltb _ _ is.short in
    rw in_limit (said_again b is)

-- so entries are read one after the other
pub each_again : (kind : Kind) (before : List ℕ) (ss : List Setting) → FollowEachOther kind before ss
    → AreEntries ss (flat_map entry_bytes ss)
each_again kind before [] follow = refl
each_again kind before (s ∷ ss) follow = (
  flat_map entry_bytes ss,
  ap entry_at (flat_map-cons entry_bytes s ss) ∙ entry_again s (flat_map entry_bytes ss) follow.0.key follow.0.value,
  each_again kind s.key ss follow.1,
)
