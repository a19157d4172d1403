-- What a whole table takes: how many settings it has, and how many bytes their entries have. What
-- would be more than a body may have is left out. Nothing that is counted has to be right.
-- Example: The entry of `colour` with the value `red` has 15 bytes. With that setting alone the
-- counts are 1 and 15, and once its value is `blue`, 1 and 16.
-- Source: this project's own.
use Rattle.std.specs.Prelude.{ℕ, ◌+◌, ◌-◌, ◌&&◌, nat_lt, nat_le, min, Bool, if◌then◌else◌}
use Rattle.std.specs.Prelude.{List, length}
use Rattle.std.specs.List.{flat_map}
use Rattle.rignolda_agent.specs.declared.body.Kind.TheVariants.{Table}
use Rattle.rignolda_agent.specs.declared.room.Room.{Room}
use Rattle.rignolda_agent.specs.BodySpelling.{Body, Setting, body_limit, entry_bytes, settings_limit}
use Rattle.rignolda_agent.specs.Publishers.{highest}

-- what all these settings take
abbrev pub room_of : List Setting → Room
room_of settings = record {
  settings = length settings;
  bytes = length (flat_map entry_bytes settings);
}

-- 1 where there are bytes
abbrev pub one_if_any : ℕ → ℕ
one_if_any bytes = if nat_lt 0 bytes then 1 else 0

-- a count with so much more, up to the highest, and then with so much less
abbrev pub counted : ℕ → ℕ → ℕ → ℕ
counted count more less = min (count + more) highest - less

-- once the entry of a setting that had so many bytes has so many; one that is not there has none
abbrev pub changed : Room → ℕ → ℕ → Room
changed r had has = record {
  settings = counted r.settings (one_if_any has) (one_if_any had);
  bytes = counted r.bytes has had;
}

-- the most bytes that the entries of a table have, beside those of its head
abbrev pub entries_limit : ℕ
entries_limit = body_limit - 13

abbrev pub fits : Room → Bool
fits r = nat_le r.settings settings_limit && nat_le r.bytes entries_limit

-- the table of these settings
abbrev pub table_of : ℕ → List Setting → Body
table_of number settings = record { kind = Table; number = number; settings = settings }
