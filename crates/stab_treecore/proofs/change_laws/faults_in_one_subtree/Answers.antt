use Rattle.stab_treecore.proofs.Cut.{cut_law}
use Rattle.stab_treecore.proofs.change_laws.faults_in_one_subtree.Goals as goal

pub returns : goal.returns
returns c =
    λ tree s before after w above is is_child spared is_middle fed enough steps node is_node leads spare.
    cut_law c.link_law_from_any_state.ensures tree s before after w above is is_child spared is_middle fed enough steps node is_node leads spare
