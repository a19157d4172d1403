use Rattle.stab_treecore.proofs.Edges.{edges_obey}
use Rattle.stab_treecore.proofs.laws.tree_law_of_edges.Goals as goal

pub returns : goal.returns
returns c = edges_obey c.every_replay_obeys_the_link_law.ensures
