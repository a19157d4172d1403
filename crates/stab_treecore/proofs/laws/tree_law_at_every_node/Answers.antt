use Rattle.stab_treecore.proofs.AtNodes.{nodes_obey}
use Rattle.stab_treecore.proofs.laws.tree_law_at_every_node.Goals as goal

pub returns : goal.returns
returns c net received tree fit at_root = nodes_obey net tree received at_root fit
