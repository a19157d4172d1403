use Rattle.stab_convergence.proofs.Clean.{more_than_missing}
use Rattle.stab_convergence.proofs.laws.more_than_missing_is_enough.Goals as goal

pub returns : goal.returns
returns c tree s m node is = more_than_missing tree s m node is
