use Rattle.stab_c.proofs.Forgetting.{has_list}
use Rattle.stab_c.proofs.laws.every_node_has_a_list.Goals as goal

pub returns : goal.returns
returns c = has_list
