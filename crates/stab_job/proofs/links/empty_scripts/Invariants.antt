use Rattle.std.proofs.Common.{◌≡◌, replicate}
use Rattle.stab_acts.specs.Scripts.{no_acts}
use Rattle.stab_job.proofs.links.empty_scripts.Given as goal

-- there is one for each link so far
abbrev pub invariant-links : goal.invariant-links
invariant-links l = l.scripts ≡ replicate l.counter no_acts
