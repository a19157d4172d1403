use Rattle.stab_treecore.proofs.Upwards.{root_has_all}
use Rattle.stab_treecore.proofs.laws.root_obeys_the_complete_law.Goals as goal

pub returns : goal.returns
returns c = root_has_all
