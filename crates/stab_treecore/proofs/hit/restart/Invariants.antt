use Rattle.stab_treecore.specs.Faults.{restarted_at}
use Rattle.stab_treecore.proofs.Happened.{IsDone}
use Rattle.stab_treecore.proofs.hit.restart.Given as goal

-- the links before this place have been done
abbrev pub invariant-links : goal.invariant-links
invariant-links l = IsDone (restarted_at l.fn.parents l.fn.node) l.fn.links.items l.links.items l.place
