-- The parameters of a link: how many entries each of its two queues may hold, and how many labels
-- its sender counts through.
-- `AreLawful` says which capacities and numbers of labels go together, `fault_of` is the first
-- check that two numbers fail, and `next` the label after a label.
-- Source: this project's profile of the stop-and-wait data link of Dolev, Self-Stabilization, MIT
-- Press 2000.
use Rattle.std.specs.Prelude.{ℕ, ◌+◌, ◌*◌, ◌≤◌, nat_lt, nat_le, ◌||◌, if◌then◌else◌}
use Rattle.std.specs.Prelude.{Option, Some, None}
use Rattle.stab_frames.specs.declared.params.ParamsFault.{ParamsFault}
use Rattle.stab_frames.specs.declared.params.ParamsFault.TheVariants.{CapacityOutOfRange}
use Rattle.stab_frames.specs.declared.params.ParamsFault.TheVariants.{LabelsTooFew, LabelsTooMany}

pub record Parameters : Type 0 where
  pub capacity : ℕ
  pub labels : ℕ

-- the most entries that a queue may hold
abbrev pub most_capacity : ℕ
most_capacity = 64

-- the most labels that a link may have
abbrev pub most_labels : ℕ
most_labels = 1000

-- the fewest labels of a link of this capacity: one more than a start can hold
abbrev pub fewest_labels : ℕ → ℕ
fewest_labels capacity = 2 * capacity + 2

-- there is room for one entry at least, and both numbers are within their limits
pub record AreLawful (p : Parameters) : Type 0 where
  pub some_capacity : 1 ≤ p.capacity
  pub small_capacity : p.capacity ≤ most_capacity
  pub enough_labels : fewest_labels p.capacity ≤ p.labels
  pub few_labels : p.labels ≤ most_labels

-- the first check that these two numbers fail
abbrev pub fault_of : ℕ → ℕ → Option ParamsFault
fault_of capacity labels =
    if nat_lt capacity 1 || nat_lt most_capacity capacity then Some CapacityOutOfRange
    else (if nat_lt labels (fewest_labels capacity) then Some LabelsTooFew
    else (if nat_lt most_labels labels then Some LabelsTooMany else None))

-- the label after l: l + 1, or 0 where l + 1 is no label
abbrev pub next : Parameters → ℕ → ℕ
next p l = if nat_le p.labels (l + 1) then 0 else l + 1
