-- What contracts see of a link of the code: its parameters beside its state; and the fault of a
-- start that is refused.
-- Source: this project's own.
use Rattle.std.specs.Prelude.{◌≡◌, ◌<◌, ◌≤◌, length}
use Rattle.stab_frames.specs.Parameters.{Parameters}
use Rattle.stab_core.specs.declared.event.Event.{Event}
use Rattle.stab_core.specs.declared.event.Effect.{Effect}
use Rattle.stab_core.specs.declared.event.Effect.TheVariants.{Held, Fresh}
use Rattle.stab_core.specs.declared.start.Start.{Start}
use Rattle.stab_core.specs.declared.start.StartFault.{StartFault}
use Rattle.stab_core.specs.declared.start.StartFault.TheVariants.{TooManyFrames, TooManyAcks}
use Rattle.stab_core.specs.declared.start.StartFault.TheVariants.{Memory}
use Rattle.stab_core.specs.LinkState.{LinkState}
use Rattle.stab_core.specs.Replay.{IsLawful}
use Rattle.stab_core.specs.Step.{step, effect}

pub record LinkValue : Type 0 where
  pub params : Parameters
  pub state : LinkState

-- the link in this state
abbrev pub link_at : Parameters → LinkState → LinkValue
link_at p s = record { params = p; state = s }

-- new is old after this event, which had this effect
abbrev pub Steps : LinkValue → Event → LinkValue → Effect → Type 0
Steps old e new had =
    (new ≡ link_at old.params (step old.params old.state e)) × (had ≡ effect old.params old.state e)

-- a list grows exactly at these effects: an item is offered, or delivered
abbrev pub Grows : Effect → Type 0
Grows Held = Unit {0}
Grows (Fresh item) = Unit {0}
Grows _ = ⊥

-- why a start is refused: the first check that fails, or memory where none does
abbrev pub IsReason : Parameters → Start → StartFault → Type 0
IsReason p start TooManyFrames = p.capacity < length start.frames
IsReason p start TooManyAcks = (length start.frames ≤ p.capacity) × (p.capacity < length start.acks)
IsReason p start Memory = IsLawful p start
