use Rattle.std.proofs.Common.{◌≡◌, map, take}
use Rattle.stab_job.specs.Steps.{event_over}
use Rattle.stab_job.proofs.events.events_over.Given as goal

-- the events are those of the steps so far
abbrev pub invariant-each : goal.invariant-each
invariant-each l = l.events ≡ map (event_over l.nodes) (take l.step-index l.steps)
