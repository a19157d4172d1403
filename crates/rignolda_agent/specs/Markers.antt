-- The marker of a folder: the number up to which the files in it are, or are about to be. Whoever
-- keeps files there marks the folder first. It goes no further if the marker has a newer number:
-- then its memory is older than the disk. It may be ended between any two acts, and then the disk
-- is as it was left.
-- Example: Marker and files have 5. A process marks the folder with 7, and is ended before it puts
-- a file. The memory of the next one says 6: it marks nothing and puts nothing. One whose memory
-- says 8 marks the folder and puts its files: they came from 5 to 8.
-- Source: write-ahead logging; numbers on a circle are this project's own.
use Rattle.std.specs.Prelude.{ℕ, not, Bool, true, false, List, [], ◌∷◌, ◌++◌, Option, Some, None}
use Rattle.std.specs.List.{fold}
use Rattle.rignolda_agent.specs.Numbers.{is_newer}
use Rattle.rignolda_agent.specs.Rounds.{IsNear}

pub record Folder : Type 0 where
  pub marker : ℕ
  -- the number that its files came to last
  pub files : ℕ
  -- with which number this process marked it, if it did and may put files
  pub marked : Option ℕ

pub data Act : Type 0 where
  -- the folder is to be marked with this number
  marks : ℕ → Act
  -- a file is put as it is by that number
  puts : Act
  -- the process is ended, or its memory is that of another time
  ends : Act

abbrev pub may_mark : ℕ → ℕ → Bool
may_mark marker number = not (is_newer number marker)

abbrev pub marked_if : Bool → Folder → ℕ → Folder
marked_if true f number = record { marker = number; files = f.files; marked = Some number }
marked_if false f number = record { marker = f.marker; files = f.files; marked = None }

abbrev pub put_by : Option ℕ → Folder → Folder
put_by (Some number) f = record { marker = f.marker; files = number; marked = f.marked }
put_by None f = f

abbrev pub does : Folder → Act → Folder
does f (marks number) = marked_if (may_mark f.marker number) f number
does f puts = put_by f.marked f
does f ends = record { marker = f.marker; files = f.files; marked = None }

abbrev pub does_all : Folder → List Act → Folder
does_all = fold does

-- the numbers that the files come to, one after the other
abbrev pub come_to : Folder → List Act → List ℕ
come_to f [] = []
come_to f (act ∷ acts) = (does f act).files ∷ come_to (does f act) acts

-- the folder is to be marked with numbers near a lowest one alone
abbrev pub AllMarkNear : ℕ → List Act → Type 0
AllMarkNear low [] = Unit {0}
AllMarkNear low (marks number ∷ acts) = IsNear low number × AllMarkNear low acts
AllMarkNear low (puts ∷ acts) = AllMarkNear low acts
AllMarkNear low (ends ∷ acts) = AllMarkNear low acts
