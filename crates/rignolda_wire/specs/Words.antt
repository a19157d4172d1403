-- What links in a store show. A parent's word is its hello, and behind it what its sender sends,
-- if that is anything. A child's word is its hello, and how often it has set its report.
-- Example: Behind the hello of a child that has set three reports are the bytes 0, 0, 0, 3.
-- Source: this project's own.
use Rattle.std.specs.Prelude.{ℕ, ◌==◌, nat_le, ◌&&◌, Bool, if◌then◌else◌}
use Rattle.std.specs.Prelude.{List, ◌∷◌, ◌++◌, length, false, Option, Some, None, Result, Ok, Err}
use Rattle.std.specs.Int.{w16, w32, from_be_bytes, to_be_bytes}
use Rattle.rignolda_wire.specs.declared.fault.Fault.{Fault}
use Rattle.rignolda_wire.specs.declared.said.Expect.TheVariants.{Hello}
use Rattle.rignolda_wire.specs.Reading.{◌>>=◌, Reader, give, letter_at, message_at, number_at}
use Rattle.rignolda_wire.specs.Said.{Greeted, Said, hello, spelling}
use Rattle.rignolda_wire.specs.Writing.{frame_head, is_short}

-- a parent's word, with and without a frame, a reference or a filler, and a child's
pub data Word : Type 0 where
  down : Greeted → Word
  down_with : Greeted → Said → Word
  up : Greeted → ℕ → Word

abbrev pub word_bytes : Word → List ℕ
word_bytes (down g) = spelling (hello false g)
word_bytes (down_with g m) = spelling (hello false g) ++ spelling m
word_bytes (up g reports) = spelling (hello false g) ++ to_be_bytes w32 reports

-- ---- what is read of them

-- a hello, and no look, and the bytes behind it
abbrev pub hello_of : Result (Said × List ℕ) Fault → Option (Greeted × List ℕ)
hello_of (Ok (hello false g, rest)) = Some (g, rest)
hello_of read = None

abbrev pub word_at : List ℕ → Option (Greeted × List ℕ)
word_at bytes = hello_of (message_at Hello bytes)

-- what a frame has before its body, of which it says the length
pub record Headed : Type 0 where
  pub label : ℕ
  pub item : ℕ
  pub len : ℕ

abbrev pub headed_bytes : Headed → List ℕ
headed_bytes h = 70 ∷ frame_head h.label h.item h.len

unfoldable pub head_at : Reader Headed
head_at = do
  _ ← letter_at 70
  label ← number_at w16
  item ← number_at w32
  len ← number_at w32
  give (record { label = label; item = item; len = len })

-- how often a report was set, if these bytes say so, all of them
abbrev pub reports_of : List ℕ → Option ℕ
reports_of bytes = if length bytes == 4 then Some (from_be_bytes w32 bytes) else None

abbrev pub first_of : {A : Type 0} → Result (A × List ℕ) Fault → Option A
first_of (Ok x) = Some x.0
first_of (Err fault) = None

abbrev pub head_of : List ℕ → Option Headed
head_of bytes = first_of (head_at bytes)

-- ---- a child's word is written

abbrev pub up_is_written : List ℕ → Greeted → ℕ → Bool
up_is_written buffer g reports =
    is_short (hello false g) && nat_le (length (word_bytes (up g reports))) (length buffer)
