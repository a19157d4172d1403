-- What the private fields of a history keep: the packed runs with their marks, and the run that may
-- still grow.
-- Source: this project's own.
use Rattle.std.specs.Prelude.{◌≡◌, ℕ, ◌+◌, ◌*◌, ◌/◌, ◌<◌, ◌≤◌, List, [], ◌++◌, length, take}
use Rattle.std.specs.Prelude.{replicate, slice_index, Option, Some, None}
use Rattle.stab_core.specs.declared.event.Event.{Event}
use Rattle.stab_lock.specs.declared.run.Run.{Run}
use Rattle.stab_lock.specs.declared.part.Part.{Part}
use Rattle.stab_lock.specs.CodesInside.{all_parts, unpack, numbers_in, expand, AreRuns}
use Rattle.stab_lock.specs.History.{IsLast, most_events}

-- packed runs, and for how many more there is room
pub record PackedValue : Type 0 where
  pub runs : List Run
  pub room : ℕ

-- of so many codes, each 256th has a mark: what this counts of the codes before it
abbrev pub AreMarks : (ℕ → ℕ) → ℕ → List ℕ → Type 0
AreMarks counted codes marks =
    (length marks ≡ (codes + 255) / 256)
    × ((k : ℕ) → k < length marks → slice_index marks k ≡ counted (k * 256))

-- how many events and how many numbers the first of these codes have
abbrev pub events_before : List ℕ → List (List Part) → ℕ → ℕ
events_before numbers codes n = length (expand (unpack numbers 0 (all_parts (take n codes))))

abbrev pub numbers_before : List (List Part) → ℕ → ℕ
numbers_before codes n = numbers_in (all_parts (take n codes))

-- these codes and numbers are runs, with these marks of events and of numbers, and this many events
pub record ArePacked (codes : List (List Part)) (numbers marks starts : List ℕ) (count : ℕ)
    : Type 0 where
  pub runs : AreRuns (unpack numbers 0 (all_parts codes))
  pub all_numbers : numbers_in (all_parts codes) ≡ length numbers
  pub marked : AreMarks (events_before numbers codes) (length codes) marks
  pub started : AreMarks (numbers_before codes) (length codes) starts
  pub counted : count ≡ length (expand (unpack numbers 0 (all_parts codes)))

-- the events of the run that still grows, where there is one
abbrev pub open_events : Option Run → List Event
open_events None = []
open_events (Some run) = replicate run.count run.event

-- all events: those of the packed runs, and then those of the one that grows
abbrev pub all_events : List Run → Option Run → List Event
all_events runs last = expand runs ++ open_events last

-- the run that grows is not empty, and the events before it do not end in its event; where there
-- is none, nothing happened yet
abbrev pub IsOpen : List Run → Option Run → Type 0
IsOpen runs None = runs ≡ []
IsOpen runs (Some run) = (1 ≤ run.count) × ¬ IsLast run.event (expand runs)

pub record IsHistory (runs : List Run) (last : Option Run) : Type 0 where
  pub last_run : IsOpen runs last
  pub within : length (all_events runs last) ≤ most_events
