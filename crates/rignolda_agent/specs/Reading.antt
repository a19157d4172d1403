-- Reading a body from left to right, with the first fault that is met.
-- Example: Of 'H', the eight bytes of 7 and one byte more, the fault is that something follows.
-- Source: this project's own.
use Rattle.std.specs.Prelude.{ℕ, zero, suc, nat_lt, ◌==◌, if◌then◌else◌}
use Rattle.std.specs.Prelude.{List, [], ◌∷◌, length, take, drop, Option, Some, None, Result, Ok, Err}
use Rattle.std.specs.Int.{Width, w32, w64, byte_len, from_be_bytes}
use Rattle.rignolda_agent.specs.declared.body.Kind.{Kind}
use Rattle.rignolda_agent.specs.declared.body.Kind.TheVariants.{Changes, Table, Harmless}
use Rattle.rignolda_agent.specs.declared.fault.Fault.{Fault}
use Rattle.rignolda_agent.specs.declared.fault.Fault.TheVariants.{Unfit, Large, Short, NoKind, Many, NoMark, NoKey, Order, Long, Unset, Trailing}
use Rattle.rignolda_agent.specs.Checksum.{checksum}
use Rattle.rignolda_agent.specs.BodySpelling.{Setting, Body, body_limit, is_above, is_allowed, is_key, settings_limit, value_limit}

infixl 10 ◌>>=◌
abbrev pub ◌>>=◌ : {A B : Type 0} → Result A Fault → (A → Result B Fault) → Result B Fault
(Ok x) >>= f = f x
(Err e) >>= f = Err e

-- Each reader gives what it read, and the bytes after that.

abbrev pub byte_at : List ℕ → Result (ℕ × List ℕ) Fault
byte_at [] = Err Short
byte_at (byte ∷ rest) = Ok (byte, rest)

abbrev pub number_at : Width → List ℕ → Result (ℕ × List ℕ) Fault
number_at w bytes =
    if nat_lt (length bytes) (byte_len w) then Err Short
    else Ok (from_be_bytes w (take (byte_len w) bytes), drop (byte_len w) bytes)

-- so many bytes
abbrev pub text_at : ℕ → List ℕ → Result (List ℕ × List ℕ) Fault
text_at len bytes =
    if nat_lt (length bytes) len then Err Short else Ok (take len bytes, drop len bytes)

unfoldable pub kind_at : List ℕ → Result (Kind × List ℕ) Fault
kind_at bytes = do
  byte ← byte_at bytes
  if byte.0 == 67 then Ok (Changes, byte.1)
      else (if byte.0 == 84 then Ok (Table, byte.1)
      else (if byte.0 == 72 then Ok (Harmless, byte.1) else Err NoKind))

unfoldable pub key_at : List ℕ → Result (List ℕ × List ℕ) Fault
key_at bytes = do
  len ← byte_at bytes
  key ← text_at len.0 len.1
  if is_key key.0 then Ok key else Err NoKey

unfoldable pub value_at : List ℕ → Result (List ℕ × List ℕ) Fault
value_at bytes = do
  len ← number_at w32 bytes
  if nat_lt value_limit len.0 then Err Long else text_at len.0 len.1

-- the value behind a mark and a key
unfoldable pub marked_at : ℕ → List ℕ → Result (Option (List ℕ) × List ℕ) Fault
marked_at mark bytes =
    if mark == 83 then (value_at bytes >>= λ value. Ok (Some value.0, value.1))
    else (if mark == 85 then Ok (None, bytes) else Err NoMark)

unfoldable pub entry_at : List ℕ → Result (Setting × List ℕ) Fault
entry_at bytes = do
  mark ← byte_at bytes
  key ← key_at mark.1
  value ← marked_at mark.0 key.1
  Ok (record { key = key.0; value = value.0 }, value.1)

-- the entry may follow that of a key in a body of this kind
abbrev pub checked : Kind → List ℕ → Setting × List ℕ → Result (Setting × List ℕ) Fault
checked kind before entry =
    if is_above before entry.0.key
    then (if is_allowed kind entry.0 then Ok entry else Err Unset) else Err Order

unfoldable pub next_at : Kind → List ℕ → List ℕ → Result (Setting × List ℕ) Fault
next_at kind before bytes = entry_at bytes >>= checked kind before

-- so many entries after that of a key
unfoldable pub entries_at : Kind → List ℕ → ℕ → List ℕ → Result (List Setting × List ℕ) Fault
entries_at kind before zero bytes = Ok ([], bytes)
entries_at kind before (suc count) bytes = do
  first ← next_at kind before bytes
  others ← entries_at kind first.0.key count first.1
  Ok (first.0 ∷ others.0, others.1)

-- how many entries there are
unfoldable pub count_at : Kind → List ℕ → Result (ℕ × List ℕ) Fault
count_at Harmless bytes = Ok (0, bytes)
count_at kind bytes = do
  count ← number_at w32 bytes
  if nat_lt settings_limit count.0 then Err Many else Ok count

unfoldable pub settings_of : Kind → List ℕ → Result (List Setting) Fault
settings_of kind bytes = do
  count ← count_at kind bytes
  settings ← entries_at kind [] count.0 count.1
  if length settings.1 == 0 then Ok settings.0 else Err Trailing

-- what all of the bytes say
unfoldable pub said_by : List ℕ → Result Body Fault
said_by bytes = do
  kind ← kind_at bytes
  number ← number_at w64 kind.1
  settings ← settings_of kind.0 number.1
  Ok (record { kind = kind.0; number = number.0; settings = settings })

unfoldable pub body_of : List ℕ → Result Body Fault
body_of bytes = if nat_lt body_limit (length bytes) then Err Large else said_by bytes

-- what the bytes beside an item say, if they fit it
abbrev pub heard : ℕ → List ℕ → Result Body Fault
heard item bytes = if checksum bytes == item then body_of bytes else Err Unfit
