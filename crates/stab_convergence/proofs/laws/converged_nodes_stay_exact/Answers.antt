use Rattle.stab_convergence.proofs.Exactly.{stays_exact}
use Rattle.stab_convergence.proofs.laws.converged_nodes_stay_exact.Goals as goal

pub returns : goal.returns
returns c tree s changes later node is is_node spare is_later clean later_spare =
    stays_exact tree s is node is_node changes spare is_later clean later later_spare
