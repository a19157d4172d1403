-- What a root publishes next, and what it remembers for that: numbers alone. Nothing of it has to
-- be right: every bit pattern of the struct means something, and a round is as long at most as the
-- longest that can be asked for.
-- Example: Number 9 was the last. A round with two harmless bodies is asked for while a change
-- waits, and another change comes whenever one is published. Then the next bodies are changes 10,
-- harmless 11, changes 12, harmless 13, changes 14 and the whole table 15, with which the round is
-- over.
-- Source: this project's own.
use Rattle.std.specs.Prelude.{ℕ, ◌+◌, ◌-◌, ◌==◌, ◌&&◌, ◌||◌, not, nat_lt, nat_le, min}
use Rattle.std.specs.Prelude.{max, Bool, true, false, if◌then◌else◌}
use Rattle.rignolda_agent.specs.Numbers.{is_newer, next as after_number, towards}
use Rattle.rignolda_agent.specs.declared.publisher.Next.{Next}
use Rattle.rignolda_agent.specs.declared.publisher.Next.TheVariants.{Nothing, Harmless, Changes}
use Rattle.rignolda_agent.specs.declared.publisher.Next.TheVariants.{Whole}
use Rattle.rignolda_agent.specs.declared.publisher.Publisher.{Publisher as Struct}

-- the most harmless bodies of a round, the most changes of a body, and the highest count
abbrev pub most_harmless : ℕ
most_harmless = 65535

abbrev pub most_changes : ℕ
most_changes = 4096

abbrev pub highest : ℕ
highest = 18446744073709551615

-- Bodies after a table make a new one due once they are so many, or have so many bytes, and more
-- bytes than the table had.
abbrev pub many_items : ℕ
many_items = 64

abbrev pub many_bytes : ℕ
many_bytes = 1048576

pub record Publisher : Type 0 where
  -- of the last body
  pub number : ℕ
  -- how many bodies came after the last whole table, their bytes, and those of the table
  pub items : ℕ
  pub bytes : ℕ
  pub table_bytes : ℕ
  -- the bodies of the round that are still to come, its table with them
  pub left : ℕ
  -- whether the round goes on before changes do
  pub rounds_turn : Bool
  pub table_first : Bool
  -- whether no table may be published, and nothing of a round
  pub held : Bool

abbrev pub publisher_of : Struct → Publisher
publisher_of s = record {
  number = s.number;
  items = s.items;
  bytes = s.bytes;
  table_bytes = s.table_bytes;
  left = min s.left (most_harmless + 1);
  rounds_turn = not (s.rounds_turn == 0);
  table_first = not (s.table_first == 0);
  held = not (s.held == 0);
}

-- one that begins after this number
abbrev pub new : ℕ → Publisher
new number = record {
  number = number;
  items = 0;
  bytes = 0;
  table_bytes = 0;
  left = 0;
  rounds_turn = false;
  table_first = true;
  held = false;
}

abbrev pub is_in_a_round : Publisher → Bool
is_in_a_round p = nat_lt 0 p.left

-- the bodies of a round with so many harmless ones
abbrev pub round_of : ℕ → ℕ
round_of harmless = min harmless most_harmless + 1

-- A round of so many harmless bodies begins. One that is under way goes on instead, with no more
-- bodies than that.
abbrev pub begun : Publisher → ℕ → Publisher
begun p harmless =
    if is_in_a_round p then record p { left = min p.left (round_of harmless) }
    else record p { left = round_of harmless; rounds_turn = false }

-- a body is due where this number of changes waits
abbrev pub waits : Publisher → ℕ → Bool
waits p changes = nat_lt 0 changes || (not p.held && (p.table_first || is_in_a_round p))

-- so many bodies came after the table that a new one is due
abbrev pub is_table_due : Publisher → ℕ → Bool
is_table_due p limit =
    nat_le (max limit 1) p.items
    || (nat_lt p.table_bytes p.bytes && (nat_le many_items p.items || nat_lt many_bytes p.bytes))

-- the round goes on: there is one, and it is its turn, or no change waits
abbrev pub round_goes_on : Publisher → ℕ → Bool
round_goes_on p changes = is_in_a_round p && (p.rounds_turn || changes == 0)

abbrev pub is_table_next : Publisher → ℕ → ℕ → Bool
is_table_next p changes limit =
    p.table_first || (is_table_due p limit || (round_goes_on p changes && p.left == 1))

-- the next body, where something is due
abbrev pub due_next : Publisher → ℕ → ℕ → Next
due_next p changes limit =
    if p.held then Changes
    else if is_table_next p changes limit then Whole
    else if round_goes_on p changes then Harmless
    else Changes

-- The next body, where this number of changes waits and so many bodies may follow a table. Changes
-- and harmless bodies take turns.
abbrev pub next : Publisher → ℕ → ℕ → Next
next p changes limit = if waits p changes then due_next p changes limit else Nothing

-- Where an agent has this number, and it is newer, the publisher goes on above it, or a quarter of
-- all numbers nearer to it, with a whole table first. By more at once it could pass those who have
-- the last number: no number is newer than one that is half of all before it.
abbrev pub gone_above : Publisher → ℕ → Publisher
gone_above p number =
    if is_newer p.number number
    then record p { number = towards p.number number; table_first = true }
    else p

-- a count goes on, up to the highest
abbrev pub counted : ℕ → ℕ → ℕ
counted count more = min (count + more) highest

-- the publisher after this body, which has so many bytes
abbrev pub after_body : Next → Publisher → ℕ → Publisher
after_body Nothing p bytes = p
after_body Harmless p bytes =
    record p {
      number = after_number p.number;
      items = counted p.items 1;
      bytes = counted p.bytes bytes;
      left = p.left - 1;
      rounds_turn = false;
    }
after_body Changes p bytes =
    record p {
      number = after_number p.number;
      items = counted p.items 1;
      bytes = counted p.bytes bytes;
      rounds_turn = true;
    }
after_body Whole p bytes =
    record p {
      number = after_number p.number;
      items = 0;
      bytes = 0;
      table_bytes = bytes;
      left = if p.left == 1 then 0 else p.left;
      table_first = false;
    }

-- how many of the changes that wait are published with this body: the first ones
abbrev pub taken : Next → ℕ → ℕ
taken Nothing changes = 0
taken Harmless changes = 0
taken Changes changes = min changes most_changes
taken Whole changes = changes

-- how many entries this body has: a whole table has all settings
abbrev pub entries : Next → ℕ → ℕ → ℕ
entries Nothing changes settings = 0
entries Harmless changes settings = 0
entries Changes changes settings = min changes most_changes
entries Whole changes settings = settings
