use Rattle.stab_convergence.proofs.Settled.{passes_all}
use Rattle.stab_convergence.proofs.laws.settled_links_add_nothing.Goals as goal

pub returns : goal.returns
returns c tree s before after w parent is is_child first second is_middle clean all_acked =
    passes_all tree s before after w parent is is_child first second clean all_acked
