use Rattle.stab_treecore.proofs.Schedules.{law_of_short_backlogs, sharper_law_of_short_backlogs}
use Rattle.stab_treecore.proofs.change_laws.law_of_short_backlogs.Goals as goal

pub returns : goal.returns
returns c = record { tree_law = law_of_short_backlogs; sharper = sharper_law_of_short_backlogs }
