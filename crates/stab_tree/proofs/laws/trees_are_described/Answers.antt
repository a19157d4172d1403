use Rattle.stab_tree.proofs.Described.{trees_described}
use Rattle.stab_tree.proofs.laws.trees_are_described.Goals as goal

pub returns : goal.returns
returns c = trees_described
