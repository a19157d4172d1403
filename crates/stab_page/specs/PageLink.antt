-- What contracts see of a link of the page: the parameters beside the state with its origins; and
-- its step.
-- Source: this project's own.
use Rattle.std.specs.Prelude.{ℕ, ◌≡◌, ◌+◌, ◌≤◌, length}
use Rattle.stab_frames.specs.Parameters.{Parameters}
use Rattle.stab_core.specs.declared.event.Event.{Event}
use Rattle.stab_core.specs.declared.event.Effect.{Effect}
use Rattle.stab_core.specs.Step.{effect}
use Rattle.stab_core.specs.Trace.{traced_step}
use Rattle.stab_core.specs.Tracer.{TracerValue, tracer_at}

-- these parameters, lawful or not: a page also shows what goes wrong with too few labels
abbrev pub parameters : ℕ → ℕ → Parameters
parameters capacity labels = record { capacity = capacity; labels = labels }

-- new is old after this event, which had this effect
abbrev pub TracedSteps : TracerValue → Event → TracerValue → Effect → Type 0
TracedSteps old e new had =
    (new ≡ tracer_at old.params (traced_step old.params old.traced e))
    × (had ≡ effect old.params old.traced.state e)

-- at most one more item is offered, and at most one more delivered
abbrev pub GrowsByOne : TracerValue → TracerValue → Type 0
GrowsByOne old new =
    (length new.traced.state.offered ≤ length old.traced.state.offered + 1)
    × (length new.traced.state.delivered ≤ length old.traced.state.delivered + 1)
