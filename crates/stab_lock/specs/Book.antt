-- A link with its history: the events that happened to it since its start, which explain all that
-- it is.
-- Example: The book of the worst start with the history of its first two events: one item is
-- offered and acknowledged, and the acknowledgement is gone. After a third event, `book_after` has
-- three events, and the start and the parameters are the same. `MayRefuse` says when noting a third
-- event may be refused: the second one again only where it makes a list grow, or after
-- 18,446,744,073,709,551,615 events.
-- Source: this project's profile.
use Rattle.std.specs.Prelude.{◌≡◌, ◌⊎◌, List, [], ◌∷◌, ◌++◌, length}
use Rattle.stab_frames.specs.Parameters.{Parameters}
use Rattle.stab_core.specs.declared.event.Event.{Event}
use Rattle.stab_core.specs.declared.start.Start.{Start}
use Rattle.stab_core.specs.Link.{LinkValue, link_at, Grows}
use Rattle.stab_core.specs.LinkState.{LinkState}
use Rattle.stab_core.specs.Replay.{initial, replay}
use Rattle.stab_core.specs.Step.{effect}
use Rattle.stab_lock.specs.History.{IsLast, most_events}

pub record Book : Type 0 where
  pub params : Parameters
  pub start : Start
  pub history : List Event

-- the book of these
abbrev pub book_of : Parameters → Start → List Event → Book
book_of p start events = record { params = p; start = start; history = events }

-- the state of its link: the replay of the history from the start
abbrev pub state_of : Book → LinkState
state_of b = replay b.params (initial b.start) b.history

-- its link
abbrev pub link_of : Book → LinkValue
link_of b = link_at b.params (state_of b)

-- the book after these events, in their order
abbrev pub book_after : Book → List Event → Book
book_after b events = record b { history = b.history ++ events }

-- when a book may refuse to note an event: where the event is not the last one of the history, a
-- list of the link grows, or the history is full
abbrev pub MayRefuse : Book → Event → Type 0
MayRefuse b e =
    ¬ IsLast e b.history
    ⊎ (Grows (effect b.params (state_of b) e) ⊎ (length b.history ≡ most_events))

-- the same of all events that a call notes: nothing is never refused, and two may always be
abbrev pub MayRefuseAll : Book → List Event → Type 0
MayRefuseAll b [] = ⊥
MayRefuseAll b (e ∷ []) = MayRefuse b e
MayRefuseAll b (e ∷ f ∷ rest) = Unit {0}
