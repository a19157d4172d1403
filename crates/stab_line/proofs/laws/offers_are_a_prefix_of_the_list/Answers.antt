use Rattle.stab_line.proofs.Edges.{offers_prefix}
use Rattle.stab_line.proofs.laws.offers_are_a_prefix_of_the_list.Goals as goal

pub returns : goal.returns
returns c = offers_prefix
