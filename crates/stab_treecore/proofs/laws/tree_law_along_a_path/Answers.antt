use Rattle.stab_treecore.proofs.AtNodes.{node_obeys}
use Rattle.stab_treecore.proofs.SharperNodes.{sharper_node}
use Rattle.stab_treecore.proofs.laws.tree_law_along_a_path.Goals as goal

pub returns-clause-tree_law : goal.returns-clause-tree_law
returns-clause-tree_law c net received node tree fit at_root is_node links = node_obeys net tree received at_root fit node is_node links

pub returns-clause-sharper : goal.returns-clause-sharper
returns-clause-sharper c net received node tree fit at_root is_node links = sharper_node net tree received at_root fit node is_node links
