use Rattle.stab_treecore.proofs.Upwards.{law_below}
use Rattle.stab_treecore.proofs.laws.tree_law_of_the_child.Goals as goal

pub returns : goal.returns
returns c capacity most_strays most_missing acked start_items garbage published received offered delivered begins =
    law_below capacity most_strays acked start_items garbage published received offered delivered begins most_missing
