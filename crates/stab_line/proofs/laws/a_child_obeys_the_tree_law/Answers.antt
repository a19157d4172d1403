use Rattle.stab_line.proofs.Edges.{child_obeys_law}
use Rattle.stab_line.proofs.laws.a_child_obeys_the_tree_law.Goals as goal

pub returns : goal.returns
returns c = child_obeys_law
