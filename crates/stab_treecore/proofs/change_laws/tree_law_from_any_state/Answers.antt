use Rattle.stab_treecore.proofs.NodesSince.{law_since}
use Rattle.stab_treecore.proofs.change_laws.tree_law_from_any_state.Goals as goal

pub returns : goal.returns
returns c = λ tree s changes node is is_node spare. law_since tree s changes node is is_node spare c.link_law_from_any_state.ensures
