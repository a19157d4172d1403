use Rattle.stab_line.proofs.WholeLists.{whole_obeys_law, whole_obeys_sharper, whole_poll_acts}
use Rattle.stab_line.proofs.laws.a_tree_of_whole_lists_obeys_the_tree_law.Goals as goal

pub returns-clause-along_each_path : goal.returns-clause-along_each_path
returns-clause-along_each_path c = whole_obeys_law

pub returns-clause-sharper_along_each_path : goal.returns-clause-sharper_along_each_path
returns-clause-sharper_along_each_path c = whole_obeys_sharper c.every_replay_obeys_the_sharper_link_law.ensures

pub returns-clause-polled : goal.returns-clause-polled
returns-clause-polled c = whole_poll_acts
