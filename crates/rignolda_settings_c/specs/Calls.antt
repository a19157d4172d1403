-- What the structs and the numbers of the calls mean.
-- Source: this project's own.
use Rattle.std.specs.Prelude.{◌≡◌, ℕ, ◌+◌, ◌==◌, if◌then◌else◌, List, length, take, drop, Option, Some, None, Result, Ok, Err}
use Rattle.rignolda_agent.specs.declared.body.Head.{Head}
use Rattle.rignolda_agent.specs.declared.body.Kind.{Kind}
use Rattle.rignolda_agent.specs.declared.body.Kind.TheVariants.{Changes, Table, Harmless}
use Rattle.rignolda_agent.specs.declared.fault.Fault.{Fault}
use Rattle.rignolda_agent.specs.declared.fault.Fault.TheVariants.{Unfit, Large, Short, NoKind, Many, NoMark, NoKey, Order, Long, Unset, Trailing}
use Rattle.rignolda_agent.specs.BodySpelling.{Setting, head_bytes, kind_byte, mark}
use Rattle.rignolda_agent.specs.Writing.{after_writing, end_of, has_room}
use Rattle.rignolda_settings_c.specs.declared.bodies.BodyEntry.{BodyEntry}
use Rattle.rignolda_settings_c.specs.declared.bodies.BodyHead.{BodyHead}

-- the number of a fault
abbrev pub fault_code : Fault → ℕ
fault_code Unfit = 1
fault_code Large = 2
fault_code Short = 3
fault_code NoKind = 4
fault_code Many = 5
fault_code NoMark = 6
fault_code NoKey = 7
fault_code Order = 8
fault_code Long = 9
fault_code Unset = 10
fault_code Trailing = 11

-- 0 for a body, and else the number of its fault
abbrev pub check_code : {A : Type 0} → Result A Fault → ℕ
check_code (Ok x) = 0
check_code (Err fault) = fault_code fault

-- the head of a body is written where there is one
abbrev pub written_head : BodyHead → Result Head Fault → BodyHead
written_head old (Ok h) =
    record { number = h.number; count = h.count; kind = kind_byte h.kind }
written_head old (Err fault) = old

-- the value of an entry, which the mark 'S' says that it has
abbrev pub value_of : List ℕ → ℕ → BodyEntry → Option (List ℕ)
value_of bytes mark e =
    if mark == 83 then Some (take e.value_length (drop e.value bytes)) else None

-- the setting that an entry shows in the bytes
abbrev pub setting_in : List ℕ → ℕ → BodyEntry → Setting
setting_in bytes mark e = record {
  key = take e.key_length (drop e.key bytes);
  value = value_of bytes mark e;
}

-- how long a value is: 0 where there is none
abbrev pub value_len : Option (List ℕ) → ℕ
value_len None = 0
value_len (Some value) = length value

-- a call found this entry in the bytes: the setting is there, with its lengths, and what follows it
-- is behind its value, up to the end; or there was none, it returned 0, and the entry is as it was
abbrev pub Found : List ℕ → BodyEntry → Result (Setting × List ℕ) Fault → ℕ → BodyEntry → Type 0
Found bytes old (Ok x) code e =
    (code ≡ mark x.0.value) × (setting_in bytes code e ≡ x.0)
    × (e.key_length ≡ length x.0.key) × (e.value_length ≡ value_len x.0.value)
    × (drop (e.value + e.value_length) bytes ≡ x.1)
    × (e.value + e.value_length + length x.1 ≡ length bytes)
Found bytes old (Err fault) code e = (code ≡ 0) × (e ≡ old)

-- the kind that a byte names
abbrev pub kind_named : ℕ → Option Kind
kind_named byte =
    if byte == 67 then Some Changes
    else (if byte == 84 then Some Table else (if byte == 72 then Some Harmless else None))

-- the end of what was written, or 0 where nothing was
abbrev pub end_code : Option ℕ → ℕ
end_code None = 0
end_code (Some end) = end

abbrev pub begun_end : List ℕ → Option Kind → ℕ → ℕ → ℕ
begun_end buffer None number count = 0
begun_end buffer (Some kind) number count =
    let text = head_bytes kind number count in end_code (end_of (has_room buffer 0 text) 0 text)

abbrev pub begun : List ℕ → Option Kind → ℕ → ℕ → List ℕ
begun buffer None number count = buffer
begun buffer (Some kind) number count =
    let text = head_bytes kind number count in after_writing (has_room buffer 0 text) buffer 0 text
