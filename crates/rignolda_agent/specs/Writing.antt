-- Writing a body into a buffer: its head in front, and then one entry after the other.
-- Source: this project's own.
use Rattle.std.specs.Prelude.{ℕ, ◌+◌, nat_le, ◌&&◌, Bool, true, if◌then◌else◌}
use Rattle.std.specs.Prelude.{List, [], ◌∷◌, ◌++◌, length, take, drop, Option, Some, None}
use Rattle.rignolda_agent.specs.declared.body.Kind.{Kind}
use Rattle.rignolda_agent.specs.declared.body.Kind.TheVariants.{Changes, Table, Harmless}
use Rattle.rignolda_agent.specs.BodySpelling.{Body, Setting, entry_bytes, head_bytes, key_limit, value_limit}

-- the buffer with a text in it from this place on
abbrev pub with_text : List ℕ → ℕ → List ℕ → List ℕ
with_text buffer at text = take at buffer ++ (text ++ drop (at + length text) buffer)

-- the text has room in the buffer from this place on
abbrev pub has_room : List ℕ → ℕ → List ℕ → Bool
has_room buffer at text = nat_le (at + length text) (length buffer)

-- how many bytes the count has in a body of this kind
abbrev pub count_len : Kind → ℕ
count_len Changes = 4
count_len Table = 4
count_len Harmless = 0

-- the length of a value is within its limit
abbrev pub is_short_value : Option (List ℕ) → Bool
is_short_value None = true
is_short_value (Some value) = nat_le (length value) value_limit

-- the lengths of a setting are within their limits
abbrev pub is_short : Setting → Bool
is_short s = nat_le (length s.key) key_limit && is_short_value s.value

-- the entry of the setting is written
abbrev pub is_written : List ℕ → ℕ → Setting → Bool
is_written buffer at s = is_short s && has_room buffer at (entry_bytes s)

-- where the text ends, where it is written
abbrev pub end_of : Bool → ℕ → List ℕ → Option ℕ
end_of is_written at text = if is_written then Some (at + length text) else None

-- the buffer after that
abbrev pub after_writing : Bool → List ℕ → ℕ → List ℕ → List ℕ
after_writing is_written buffer at text =
    if is_written then with_text buffer at text else buffer

-- the buffer after these entries, from this place on
abbrev pub with_entries : List ℕ → ℕ → List Setting → List ℕ
with_entries buffer at [] = buffer
with_entries buffer at (s ∷ ss) =
    with_entries (with_text buffer at (entry_bytes s)) (at + length (entry_bytes s)) ss

-- the buffer after the head and the entries of a body
abbrev pub with_body : List ℕ → Body → List ℕ
with_body buffer b =
    let text = head_bytes b.kind b.number (length b.settings) in
    with_entries (with_text buffer 0 text) (length text) b.settings
