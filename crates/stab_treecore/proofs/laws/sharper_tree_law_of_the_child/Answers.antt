use Rattle.stab_treecore.proofs.Upwards.{sharper_below}
use Rattle.stab_treecore.proofs.laws.sharper_tree_law_of_the_child.Goals as goal

pub returns : goal.returns
returns c capacity most_strays without most_missing acked start_items garbage published received offered delivered begins =
    sharper_below capacity most_strays acked start_items garbage published received offered delivered begins without most_missing
