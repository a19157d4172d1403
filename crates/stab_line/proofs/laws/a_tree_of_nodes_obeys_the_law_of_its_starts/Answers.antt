use Rattle.stab_line.proofs.StartTrees.{tree_obeys_starts}
use Rattle.stab_line.proofs.laws.a_tree_of_nodes_obeys_the_law_of_its_starts.Goals as goal

pub returns : goal.returns
returns c = tree_obeys_starts
