use Rattle.stab_treecore.proofs.Upwards.{half_below}
use Rattle.stab_treecore.proofs.laws.half_tree_law_of_the_child.Goals as goal

pub returns : goal.returns
returns c = half_below
