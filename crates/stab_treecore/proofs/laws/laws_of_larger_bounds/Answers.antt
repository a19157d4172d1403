use Rattle.stab_treecore.proofs.Upwards.{larger_bounds, larger_complete}
use Rattle.stab_treecore.proofs.laws.laws_of_larger_bounds.Goals as goal

pub returns-clause-tree_law : goal.returns-clause-tree_law
returns-clause-tree_law c = larger_bounds

pub returns-clause-complete : goal.returns-clause-complete
returns-clause-complete c = larger_complete
