use Rattle.std.proofs.Common.{All, take}
use Rattle.stab_core.specs.LinkSetup.{CanBegin, setups}
use Rattle.stab_run.proofs.starts.check_starts.Given as goal

-- the links so far can begin
abbrev pub invariant-loop-place : goal.invariant-loop-place
invariant-loop-place l = All CanBegin (take l.place (setups l.params l.starts))
