use Rattle.stab_tree.proofs.Links.{tree_links}
use Rattle.stab_tree.proofs.Trees.{one_root}
use Rattle.stab_tree.proofs.laws.trees_have_links.Goals as goal

pub returns : goal.returns
returns c = λ parents rooted. tree_links parents (one_root parents rooted)
