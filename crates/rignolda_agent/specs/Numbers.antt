-- Numbers of bodies: 64 bits on a circle, and compared as DNS compares the serial numbers of a
-- zone. 0 is no number.
-- Example: 5 is newer than 3, and 3 is not newer than 5, nor 5 than 5. After 2^64 - 1 comes 1,
-- which is ahead of it by 2, and so newer. Each of them is newer than no number.
-- Source: RFC 1982, Serial Number Arithmetic; that 0 is no number is this project's own.
use Rattle.std.specs.Prelude.{ℕ, ◌+◌, ◌-◌, ◌==◌, ◌&&◌, ◌||◌, not, nat_lt, nat_le, Bool}
use Rattle.std.specs.Prelude.{if◌then◌else◌}
use Rattle.std.specs.Prelude.{List}
use Rattle.std.specs.List.{fold}

-- how many numbers there are, and half as many
abbrev pub circle : ℕ
circle = 18446744073709551616

abbrev pub half : ℕ
half = 9223372036854775808

-- half of that again
abbrev pub quarter : ℕ
quarter = 4611686018427387904

-- how far the second number is ahead of the first
abbrev pub ahead : ℕ → ℕ → ℕ
ahead from number = if nat_le from number then number - from else number + circle - from

-- The second number is newer than the first: it is ahead by less than half of the circle, or the
-- first is none.
abbrev pub is_newer : ℕ → ℕ → Bool
is_newer than number =
    not (number == 0)
    && (than == 0 || (nat_lt 0 (ahead than number) && nat_lt (ahead than number) half))

abbrev pub next : ℕ → ℕ
next number = if number + 1 == circle then 1 else number + 1

-- The number that is a quarter of the circle ahead of this one, or one more past 0.
abbrev pub quarter_on : ℕ → ℕ
quarter_on number =
    if nat_lt (number + quarter) circle then number + quarter
    else number + quarter + 1 - circle

-- Towards the second number from the first, but by no more than that.
abbrev pub towards : ℕ → ℕ → ℕ
towards from number = if nat_le (ahead from number) quarter then number else quarter_on from

-- Of two numbers the one that is further ahead of a third; one that is not newer is not ahead.
abbrev pub lead : ℕ → ℕ → ℕ
lead from number = if is_newer from number then ahead from number else 0

abbrev pub further : ℕ → ℕ → ℕ → ℕ
further from number other = if nat_lt (lead from number) (lead from other) then other else number

-- The one of these numbers that is furthest ahead of the first; the first itself, where none is.
abbrev pub furthest : ℕ → List ℕ → ℕ
furthest from = fold (further from) from
