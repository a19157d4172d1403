use Rattle.stab_tree.proofs.Described.{cycle_found}
use Rattle.stab_tree.proofs.laws.cycles_never_end.Goals as goal

pub returns : goal.returns
returns c = cycle_found
