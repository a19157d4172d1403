use Rattle.std.proofs.Common.{All, take}
use Rattle.stab_core.specs.LinkSetup.{CanBegin, setups}
use Rattle.stab_treecore.proofs.open.check.Given as goal

-- the links so far can begin
abbrev pub invariant-links : goal.invariant-links
invariant-links l = All CanBegin (take l.place (setups l.params l.starts))
