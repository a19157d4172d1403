-- Origins: the replay in which every queued frame carries where it comes from, and what is
-- delivered carries it along.
-- Source: this project's own, to say of each delivered item whether it is a stray or which offered
-- item it is.
use Rattle.std.specs.Prelude.{◌≡◌, ℕ, ◌+◌, ◌-◌, ◌==◌, ◌&&◌, List, [], ◌∷◌, ◌++◌, length, map}
use Rattle.std.specs.Prelude.{slice_get, if◌then◌else◌, Option, Some, None}
use Rattle.stab_frames.specs.declared.frame.Frame.{Frame}
use Rattle.stab_frames.specs.Parameters.{Parameters}
use Rattle.stab_frames.specs.Queue.{without}
use Rattle.stab_core.specs.declared.event.Event.{Event}
use Rattle.stab_core.specs.declared.event.Event.TheVariants.{SendFrame, RecvFrame}
use Rattle.stab_core.specs.declared.event.Event.TheVariants.{LoseFrame}
use Rattle.stab_core.specs.declared.origin.Origin.{Origin}
use Rattle.stab_core.specs.declared.origin.Origin.TheVariants.{Stray, Sent}
use Rattle.stab_core.specs.declared.start.Start.{Start}
use Rattle.stab_core.specs.LinkState.{LinkState, is_holding, has_room}
use Rattle.stab_core.specs.Step.{step, after_front}
use Rattle.stab_core.specs.Replay.{initial}
use Rattle.stab_core.specs.Picks.{Picks}

-- a link, with the origin of each queued frame, the front first, and of each delivered item
pub record Traced : Type 0 where
  pub state : LinkState
  pub queued : List Origin
  pub origins : List Origin

-- the strays of these frames, the first of which has this place
abbrev pub strays_from : ℕ → List Frame → List Origin
strays_from place [] = []
strays_from place (f ∷ fs) = Stray place ∷ strays_from (place + 1) fs

-- each frame of the start is a stray
abbrev pub traced_initial : Start → Traced
traced_initial start =
    record { state = initial start; queued = strays_from 0 start.frames; origins = [] }

-- the origins of the queued frames after an event on an open link
abbrev pub queued_after : Parameters → Traced → Event → List Origin
queued_after p t SendFrame =
    if is_holding t.state && has_room p t.state.frames
    then t.queued ++ Sent (length t.state.offered - 1) ∷ []
    else t.queued
queued_after p t (RecvFrame keep) = after_front keep t.queued
queued_after p t (LoseFrame place) = without place t.queued
queued_after p t _ = t.queued

-- the origin of the front frame, where the receiver takes that frame
abbrev pub taken_origin : LinkState → Option Frame → Option Origin → List Origin
taken_origin s None o = []
taken_origin s (Some f) None = []
taken_origin s (Some f) (Some o) = if f.label == s.recv_label then [] else o ∷ []

-- the origins of the delivered items after an event on an open link
abbrev pub origins_after : Traced → Event → List Origin
origins_after t (RecvFrame keep) =
    t.origins ++ taken_origin t.state (slice_get t.state.frames 0) (slice_get t.queued 0)
origins_after t _ = t.origins

-- the step with origins: a closed link never changes
abbrev pub traced_step : Parameters → Traced → Event → Traced
traced_step p t e =
    if t.state.closed then t
    else record {
      state = step p t.state e;
      queued = queued_after p t e;
      origins = origins_after t e;
    }

-- the state with its origins after these events
abbrev pub traced_replay : Parameters → Traced → List Event → Traced
traced_replay p t [] = t
traced_replay p t (e ∷ es) = traced_replay p (traced_step p t e) es

-- These origins explain the delivered list: strays first, then items of the offered list, each part
-- at strictly rising places, and the item at each origin is the delivered one.
pub record Explains (start_items offered : List ℕ) (origins : List Origin) (delivered : List ℕ)
    : Type 0 where
  pub stray_places : List ℕ
  pub places : List ℕ
  pub strays : List ℕ
  pub taken : List ℕ
  pub in_order : origins ≡ map Stray stray_places ++ map Sent places
  pub parts : delivered ≡ strays ++ taken
  pub strays_picked : Picks start_items stray_places strays
  pub taken_picked : Picks offered places taken
