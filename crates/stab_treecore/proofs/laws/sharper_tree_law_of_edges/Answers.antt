use Rattle.stab_treecore.proofs.Edges.{edges_obey_sharper}
use Rattle.stab_treecore.proofs.laws.sharper_tree_law_of_edges.Goals as goal

pub returns : goal.returns
returns c = edges_obey_sharper c.every_replay_obeys_the_sharper_link_law.ensures
