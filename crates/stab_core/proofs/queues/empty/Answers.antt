use Rattle.std.proofs.Common.{◌∙◌, ap, drop}
use Rattle.std.proofs.lemmas.List.{drop-drop}
use Rattle.stab_frames.specs.Queue.{queue}
use Rattle.stab_core.proofs.queues.empty.Goals as goal

-- one entry fewer is left
pub loop-preserved : goal.loop-preserved
loop-preserved g c =
    c.take.ensures.queue
    ∙ (ap (λ q. queue (drop 1 q.entries) q.capacity) c.loop.invariant
    ∙ ap (λ xs. queue xs c.args.queue.now.capacity) (drop-drop 1 c.loop.counter c.args.queue.now.entries))
