-- Which bodies an agent takes, and which of these it applies. It remembers the number of the last
-- one that it took, and its floor: the number that its files have, which it also keeps beside them.
-- Nothing of that has to be right.
-- Example: An agent whose files have number 9 starts again and hears 7, a whole table, then 8, 9
-- and 8 again. It takes 7 and 8, which wait, and 9, with which all three are applied; the last one
-- is not newer than 9, and changes nothing.
-- Source: this project's own.
use Rattle.std.specs.Prelude.{ℕ, ◌==◌, ◌&&◌, ◌||◌, not, Bool, true, false, if◌then◌else◌}
use Rattle.rignolda_agent.specs.declared.body.Kind.{Kind}
use Rattle.rignolda_agent.specs.declared.body.Kind.TheVariants.{Changes, Table, Harmless}
use Rattle.rignolda_agent.specs.Numbers.{is_newer, next}

pub record Taker : Type 0 where
  -- of the last body that was taken; 0 before the first
  pub number : ℕ
  -- of the files; 0 where it is not known
  pub floor : ℕ
  -- whether a whole table was taken, and no number was left out since
  pub whole : Bool
  -- whether harmless bodies were taken since the last table
  pub in_a_round : Bool

abbrev pub is_table : Kind → Bool
is_table Changes = false
is_table Table = true
is_table Harmless = false

abbrev pub is_harmless : Kind → Bool
is_harmless Changes = false
is_harmless Table = false
is_harmless Harmless = true

-- a body is taken where it is newer than the last one
abbrev pub takes : Taker → ℕ → Bool
takes t number = is_newer t.number number

-- the files have a newer number, so that nothing up to this one may be applied
abbrev pub is_held : Taker → ℕ → Bool
is_held t number = is_newer number t.floor

-- no number is left out before this one, as far as can be seen
abbrev pub follows : Taker → ℕ → Bool
follows t number = t.number == 0 || next t.number == number

-- What waits was not applied yet, and lacks something: it is dropped, since it may be older than
-- the files.
abbrev pub drops : Taker → Kind → ℕ → Bool
drops t kind number = is_held t t.number && not (is_table kind) && not (follows t number)

-- a table makes up for what was left out before it, if anything was
abbrev pub fills : Taker → ℕ → Bool
fills t number = not (t.whole && follows t number)

-- with a table of a round, and one that makes up for something, all files are looked at
abbrev pub looks : Taker → ℕ → Bool
looks t number = t.in_a_round || fills t number

abbrev pub after_if : Bool → Taker → Kind → ℕ → Taker
after_if true t kind number = record {
  number = number;
  floor = if is_held t number then t.floor else number;
  whole = is_table kind || (t.whole && follows t number);
  in_a_round = is_harmless kind || (t.in_a_round && not (is_table kind));
}
after_if false t kind number = t

-- after a body of this kind and number came
abbrev pub after : Taker → Kind → ℕ → Taker
after t kind number = after_if (takes t number) t kind number

-- after something of what was told was left out: the next table makes up for it
abbrev pub missing : Taker → Taker
missing t = record t { whole = false }

-- after the process was started again: its files are there, with their number
abbrev pub restarted : Taker → Taker
restarted t = record { number = 0; floor = t.floor; whole = false; in_a_round = false }
