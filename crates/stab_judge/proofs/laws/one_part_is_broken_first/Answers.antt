use Rattle.stab_judge.proofs.First.{one_first}
use Rattle.stab_judge.proofs.laws.one_part_is_broken_first.Goals as goal

pub returns : goal.returns
returns c net report part other = one_first net report part other
