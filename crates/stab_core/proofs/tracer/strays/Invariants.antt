use Rattle.std.proofs.Common.{◌≡◌, take}
use Rattle.stab_core.specs.Trace.{strays_from}
use Rattle.stab_core.proofs.tracer.strays.Given as goal

-- the frames so far are strays
abbrev pub invariant-loop-place : goal.invariant-loop-place
invariant-loop-place l =
    (l.queued.entries ≡ strays_from 0 (take l.place l.link.state.frames)) × (l.queued.capacity ≡ l.fn.params.capacity)
