-- The versions of the protocol that an end speaks, as it says them in a hello.
-- Example: In a look of version 2 the label 0x0104 says the versions 1 to 4, and the label 7 says
-- version 2 alone.
-- Source: this project's own.
use Rattle.std.specs.Prelude.{ℕ, ◌+◌, ◌*◌, ◌/◌, ◌%◌, nat_le, ◌&&◌, Bool, if◌then◌else◌}
use Rattle.rignolda_wire.specs.Said.{Greeted}

-- the oldest and the newest, a byte each, in the place of a label
abbrev pub range_of : ℕ → ℕ → ℕ
range_of oldest newest = oldest * 256 + newest

-- the label is a range: no label of a link is that high
abbrev pub has_range : Greeted → Bool
has_range g =
    nat_le 1 (g.label / 256) && nat_le (g.label / 256) (g.label % 256) && nat_le 2 g.version

-- the oldest and the newest version of an end that says so
abbrev pub versions_of : Greeted → ℕ × ℕ
versions_of g = if has_range g then (g.label / 256, g.label % 256) else (g.version, g.version)
