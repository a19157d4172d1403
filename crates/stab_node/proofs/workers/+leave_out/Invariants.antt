use Rattle.std.proofs.Common.{length}
use Rattle.stab_node.proofs.workers.+leave_out.Given as goal

-- the workers that are left
abbrev pub decreases-leave_out : goal.decreases-leave_out
decreases-leave_out g l = length l.workers.items
