use Rattle.std.proofs.Common.{◌≡◌, take}
use Rattle.stab_frames.specs.Queue.{queue}
use Rattle.stab_core.proofs.queues.refill.Given as goal

-- the entries so far are in the queue
abbrev pub invariant-loop-entry : goal.invariant-loop-entry
invariant-loop-entry g l = l.queue ≡ queue (take l.entry-index l.entries) l.fn.queue.capacity
