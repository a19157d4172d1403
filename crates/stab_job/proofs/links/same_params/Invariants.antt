use Rattle.std.proofs.Common.{◌≡◌, replicate}
use Rattle.stab_job.proofs.links.same_params.Given as goal

-- there is one for each link so far
abbrev pub invariant-links : goal.invariant-links
invariant-links l = l.params ≡ replicate l.counter l.fn.of_job
