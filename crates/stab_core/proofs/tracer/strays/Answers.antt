use Rattle.std.proofs.Common.{arith, rules}
use Rattle.stab_core.proofs.Tracing.{put_stray}
use Rattle.stab_core.proofs.tracer.strays.Goals as goal

pub loop-place-preserved : goal.loop-place-preserved
loop-place-preserved c =
    put_stray _ _ _ c.loop-place.queued c.put.new.self c.put.result (omega arith) (search rules)
    c.loop-place.invariant.0 c.loop-place.invariant.1 c.put.ensures.room c.put.ensures.queue
