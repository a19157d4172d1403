-- A history as contracts see it: its events, the first one first, and for how many more of them it
-- surely has room. An event that repeats the last one needs no room.
-- Source: this project's own.
use Rattle.std.specs.Prelude.{◌≡◌, ℕ, ◌-◌, ◌≤◌, ◌⊎◌, List, length, slice_get, Some}
use Rattle.stab_core.specs.declared.event.Event.{Event}

pub record HistoryValue : Type 0 where
  pub events : List Event
  pub room : ℕ

-- the most events that a history can have: the largest u64
abbrev pub most_events : ℕ
most_events = 18446744073709551615

-- this event is the last one of these
abbrev pub IsLast : Event → List Event → Type 0
IsLast e events = slice_get events (length events - 1) ≡ Some e

-- there is room for this event
abbrev pub HasRoom : HistoryValue → Event → Type 0
HasRoom h e = IsLast e h.events ⊎ (1 ≤ h.room)
