use Rattle.std.proofs.Common.{◌≡◌}
use Rattle.stab_frames.specs.Queue.{queue, turned}
use Rattle.stab_frames.proofs.queue.FrameQueue.turn.Given as goal

-- the entries so far have gone to the back
abbrev pub invariant-turns : goal.invariant-turns
invariant-turns g l = l.self ≡ queue (turned l._turned l.initial.self.entries) l.initial.self.capacity
