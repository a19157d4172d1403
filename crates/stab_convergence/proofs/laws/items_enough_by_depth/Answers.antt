use Rattle.stab_convergence.proofs.ByDepth.{enough_by_depth, fewest_by_depth}
use Rattle.stab_convergence.proofs.laws.items_enough_by_depth.Goals as goal

pub returns-clause-missing : goal.returns-clause-missing
returns-clause-missing c s node capacity small = fewest_by_depth s capacity small node

pub returns-clause-enough : goal.returns-clause-enough
returns-clause-enough c tree s m node capacity is small many = enough_by_depth s capacity small tree m node is many
