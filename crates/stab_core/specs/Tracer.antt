-- What contracts see of the code that traces a link: the parameters beside the state with its
-- origins.
-- Source: this project's own.
use Rattle.stab_frames.specs.Parameters.{Parameters}
use Rattle.stab_core.specs.declared.event.Event.{Event}
use Rattle.stab_core.specs.declared.event.Event.TheVariants.{SendFrame, RecvFrame}
use Rattle.stab_core.specs.declared.event.Event.TheVariants.{LoseFrame}
use Rattle.stab_core.specs.Trace.{Traced}

pub record TracerValue : Type 0 where
  pub params : Parameters
  pub traced : Traced

-- the tracer in this state
abbrev pub tracer_at : Parameters → Traced → TracerValue
tracer_at p t = record { params = p; traced = t }

-- the event puts, takes and loses no frame
abbrev pub LeavesFrames : Event → Type 0
LeavesFrames SendFrame = ⊥
LeavesFrames (RecvFrame keep) = ⊥
LeavesFrames (LoseFrame place) = ⊥
LeavesFrames _ = Unit {0}
