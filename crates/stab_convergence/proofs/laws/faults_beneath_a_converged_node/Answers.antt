use Rattle.stab_convergence.proofs.Beneath.{beneath_exact, exactly_above}
use Rattle.stab_convergence.proofs.laws.faults_beneath_a_converged_node.Goals as goal

pub returns : goal.returns
returns c tree s before after w above is is_child spared is_middle clean = (
  exactly_above c.link_law_from_any_state.ensures tree s before after w above is is_child spared is_middle clean,
  beneath_exact c.link_law_from_any_state.ensures tree s before after w above is is_child spared is_middle clean,
)
