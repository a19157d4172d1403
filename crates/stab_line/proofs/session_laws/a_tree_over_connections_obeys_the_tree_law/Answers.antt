use Rattle.stab_line.proofs.SessionTrees.{session_tree_obeys_law}
use Rattle.stab_line.proofs.session_laws.a_tree_over_connections_obeys_the_tree_law.Goals as goal

pub returns : goal.returns
returns c = session_tree_obeys_law
