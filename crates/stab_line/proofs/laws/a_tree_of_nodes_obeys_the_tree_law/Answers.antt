use Rattle.stab_line.proofs.NodeTrees.{path_obeys_law, path_obeys_sharper, tree_obeys_law, tree_obeys_sharper}
use Rattle.stab_line.proofs.laws.a_tree_of_nodes_obeys_the_tree_law.Goals as goal

pub returns-clause-at_every_node : goal.returns-clause-at_every_node
returns-clause-at_every_node c = tree_obeys_law

pub returns-clause-along_each_path : goal.returns-clause-along_each_path
returns-clause-along_each_path c = path_obeys_law

pub returns-clause-sharper_at_every_node : goal.returns-clause-sharper_at_every_node
returns-clause-sharper_at_every_node c = tree_obeys_sharper c.every_replay_obeys_the_sharper_link_law.ensures

pub returns-clause-sharper_along_each_path : goal.returns-clause-sharper_along_each_path
returns-clause-sharper_along_each_path c = path_obeys_sharper c.every_replay_obeys_the_sharper_link_law.ensures
