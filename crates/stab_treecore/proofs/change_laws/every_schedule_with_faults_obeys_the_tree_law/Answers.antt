use Rattle.stab_treecore.proofs.Schedules.{schedule_law, schedule_state, sharper_schedule_law}
use Rattle.stab_treecore.proofs.change_laws.every_schedule_with_faults_obeys_the_tree_law.Goals as goal

pub returns : goal.returns
returns c = record {
  states = λ net changes is fit. (schedule_state net changes is fit).is_state;
  tree_law = schedule_law c.link_law_from_any_state.ensures;
  sharper_tree_law = sharper_schedule_law c.sharper_link_law_from_any_state.ensures;
}
