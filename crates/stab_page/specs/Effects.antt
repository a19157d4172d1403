-- The effects of an event list, one for each event.
-- Source: this project's own.
use Rattle.std.specs.Prelude.{List, [], ◌∷◌}
use Rattle.stab_frames.specs.Parameters.{Parameters}
use Rattle.stab_core.specs.declared.event.Event.{Event}
use Rattle.stab_core.specs.declared.event.Effect.{Effect}
use Rattle.stab_core.specs.Step.{effect}
use Rattle.stab_core.specs.Trace.{Traced, traced_step}

-- the effects of these events, from this state on
abbrev pub effects : Parameters → Traced → List Event → List Effect
effects p t [] = []
effects p t (e ∷ es) = effect p t.state e ∷ effects p (traced_step p t e) es
