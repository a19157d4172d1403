use Rattle.stab_treecore.proofs.Replayed.{schedule_obeys_sharper}
use Rattle.stab_treecore.proofs.laws.every_schedule_obeys_the_sharper_tree_law.Goals as goal

pub returns : goal.returns
returns c = schedule_obeys_sharper c.reachable_steps.ensures c.every_replay_obeys_the_sharper_link_law.ensures
