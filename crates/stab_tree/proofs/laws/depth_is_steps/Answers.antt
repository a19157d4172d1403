use Rattle.stab_tree.proofs.Trees.{depth_means}
use Rattle.stab_tree.proofs.laws.depth_is_steps.Goals as goal

pub returns : goal.returns
returns c = depth_means
