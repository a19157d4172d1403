use Rattle.std.proofs.Common.{◌+◌, ◌*◌, length}
use Rattle.stab_node.proofs.workers.+fn-run_each-scope+run_each.Given as goal

-- the workers that are left, and one step more inside the scope of one of them
abbrev pub decreases-scope : goal.decreases-scope
decreases-scope g l = 2 * length l.workers.items + 1

abbrev pub decreases-run_each : goal.decreases-run_each
decreases-run_each g l = 2 * length l.workers.items
