use Rattle.std.proofs.Common.{◌≡◌, drop}
use Rattle.stab_frames.specs.Queue.{queue}
use Rattle.stab_core.proofs.queues.empty.Given as goal

-- the entries that are left
abbrev pub invariant-loop : goal.invariant-loop
invariant-loop g l = l.queue ≡ queue (drop l.counter l.fn.queue.entries) l.fn.queue.capacity
