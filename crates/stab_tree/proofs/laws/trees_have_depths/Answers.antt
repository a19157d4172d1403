use Rattle.stab_tree.proofs.Trees.{tree_depths}
use Rattle.stab_tree.proofs.laws.trees_have_depths.Goals as goal

pub returns : goal.returns
returns c = tree_depths
