use Rattle.stab_c.proofs.Forgetting.{none_left_behind}
use Rattle.stab_c.proofs.laws.what_children_need_is_not_forgotten.Goals as goal

pub returns : goal.returns
returns c = none_left_behind
