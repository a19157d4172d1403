use Rattle.stab_treecore.proofs.Upwards.{root_law}
use Rattle.stab_treecore.proofs.laws.root_obeys_the_tree_law.Goals as goal

pub returns : goal.returns
returns c = root_law
