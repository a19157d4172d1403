-- What a body says, and the one spelling of it in bytes. Numbers are in big-endian order.
-- Example: That the key `a` is now `b`, as number 7, is spelled 'C', the eight bytes of 7, 0 0 0 1,
-- and then one entry: 'S', 1, `a`, 0 0 0 1, `b`.
-- Source: this project's own.
use Rattle.std.specs.Prelude.{◌≡◌, ℕ, ◌^◌, ◌<◌, ◌≤◌, ◌==◌, ◌&&◌, ◌||◌, not, nat_le, Bool, true, false}
use Rattle.std.specs.Prelude.{List, [], ◌∷◌, ◌++◌, length, Option, Some, None, is_some, IfSome}
use Rattle.std.specs.List.{flat_map, list_all}
use Rattle.std.specs.Ordering.{nat_cmp, is_lt}
use Rattle.std.specs.Cmp.Lexicographic.{slice_cmp}
use Rattle.std.specs.Int.{w32, w64, to_be_bytes}
use Rattle.rignolda_agent.specs.declared.body.Kind.{Kind}
use Rattle.rignolda_agent.specs.declared.body.Kind.TheVariants.{Changes, Table, Harmless}

-- a key, and its value, or none where it is unset
pub record Setting : Type 0 where
  pub key : List ℕ
  pub value : Option (List ℕ)

-- what a body says: all settings, those that changed, or none at all
pub record Body : Type 0 where
  pub kind : Kind
  pub number : ℕ
  pub settings : List Setting

-- ---- the bytes

abbrev pub kind_byte : Kind → ℕ
kind_byte Changes = 67
kind_byte Table = 84
kind_byte Harmless = 72

-- 'S' before a key that is set, 'U' before one that is unset
abbrev pub mark : Option (List ℕ) → ℕ
mark None = 85
mark (Some value) = 83

abbrev pub value_bytes : Option (List ℕ) → List ℕ
value_bytes None = []
value_bytes (Some value) = to_be_bytes w32 (length value) ++ value

abbrev pub entry_bytes : Setting → List ℕ
entry_bytes s = mark s.value ∷ length s.key ∷ (s.key ++ value_bytes s.value)

-- how many entries follow, but in a harmless body, where none does
abbrev pub count_bytes : Kind → ℕ → List ℕ
count_bytes Changes count = to_be_bytes w32 count
count_bytes Table count = to_be_bytes w32 count
count_bytes Harmless count = []

-- what is before the entries
abbrev pub head_bytes : Kind → ℕ → ℕ → List ℕ
head_bytes kind number count = kind_byte kind ∷ (to_be_bytes w64 number ++ count_bytes kind count)

abbrev pub spelling : Body → List ℕ
spelling b = head_bytes b.kind b.number (length b.settings) ++ flat_map entry_bytes b.settings

-- ---- what has a spelling

abbrev pub is_between : ℕ → ℕ → ℕ → Bool
is_between low high byte = nat_le low byte && nat_le byte high

-- digits, letters, and '-', '.' and '_'
abbrev pub is_key_byte : ℕ → Bool
is_key_byte byte =
    is_between 48 57 byte || is_between 65 90 byte || is_between 97 122 byte
    || (byte == 45 || byte == 46 || byte == 95)

abbrev pub begins_well : List ℕ → Bool
begins_well [] = false
begins_well (byte ∷ bytes) = not (byte == 46 || byte == 45)

-- the longest key and value, and the most settings and bytes of a body
abbrev pub key_limit : ℕ
key_limit = 128

abbrev pub value_limit : ℕ
value_limit = 1048576

abbrev pub settings_limit : ℕ
settings_limit = 65536

abbrev pub body_limit : ℕ
body_limit = 16777216

-- such bytes, at least one and at most the limit, with no '.' or '-' in front
abbrev pub is_key : List ℕ → Bool
is_key key = begins_well key && nat_le (length key) key_limit && list_all is_key_byte key

-- a key is above another, byte by byte, and any key is above no bytes at all
abbrev pub is_above : List ℕ → List ℕ → Bool
is_above before key = is_lt (slice_cmp nat_cmp before key)

-- a table sets each of its keys, changes may unset some, and a harmless body has none
abbrev pub is_allowed : Kind → Setting → Bool
is_allowed Changes s = true
is_allowed Table s = is_some s.value
is_allowed Harmless s = false

-- the setting may follow that of a key in a body of this kind
pub record Follows (kind : Kind) (before : List ℕ) (s : Setting) : Type 0 where
  pub key : is_key s.key ≡ true
  pub above : is_above before s.key ≡ true
  pub allowed : is_allowed kind s ≡ true
  pub value : IfSome s.value (λ v. length v ≤ value_limit)

-- each may follow the one before it: so each key is there once, and the keys rise
abbrev pub FollowEachOther : Kind → List ℕ → List Setting → Type 0
FollowEachOther kind before [] = Unit {0}
FollowEachOther kind before (s ∷ ss) = Follows kind before s × FollowEachOther kind s.key ss

pub record IsBody (b : Body) : Type 0 where
  pub number : b.number < 2 ^ 64
  pub settings : FollowEachOther b.kind [] b.settings
  pub few : length b.settings ≤ settings_limit
  pub short : length (spelling b) ≤ body_limit
