use Rattle.stab_treecore.proofs.AtNodes.{half_of_nodes}
use Rattle.stab_treecore.proofs.laws.half_tree_law_at_every_node.Goals as goal

pub returns : goal.returns
returns c = half_of_nodes
