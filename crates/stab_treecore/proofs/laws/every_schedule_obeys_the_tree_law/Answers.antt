use Rattle.stab_treecore.proofs.Replayed.{schedule_obeys}
use Rattle.stab_treecore.proofs.laws.every_schedule_obeys_the_tree_law.Goals as goal

pub returns : goal.returns
returns c = schedule_obeys c.reachable_steps.ensures c.every_replay_obeys_the_link_law.ensures
