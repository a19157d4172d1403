use Rattle.std.proofs.Common.{◌≡◌, [], replicate}
use Rattle.stab_job.proofs.opened.empty_lists.Given as goal

-- there is one for each node so far
abbrev pub invariant-nodes : goal.invariant-nodes
invariant-nodes l = l.lists ≡ replicate l.counter []
