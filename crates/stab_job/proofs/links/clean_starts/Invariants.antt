use Rattle.std.proofs.Common.{◌≡◌, replicate}
use Rattle.stab_core.specs.Replay.{clean_start}
use Rattle.stab_job.proofs.links.clean_starts.Given as goal

-- there is one for each link so far
abbrev pub invariant-links : goal.invariant-links
invariant-links l = l.starts ≡ replicate l.counter clean_start
