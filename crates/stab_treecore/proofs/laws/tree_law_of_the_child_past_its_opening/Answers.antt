use Rattle.std.proofs.Common.{◌+◌, ◌*◌, ◌++◌}
use Rattle.stab_treecore.proofs.Upwards.{law_below, law_past_opening}
use Rattle.stab_treecore.proofs.laws.tree_law_of_the_child_past_its_opening.Goals as goal

pub returns : goal.returns
returns c capacity most_strays most_missing acked opening start_items garbage published received offered delivered begins above law =
    law_past_opening (most_strays + capacity) opening (start_items ++ garbage) published delivered (most_missing + (2 * capacity + 1))
    (law_below capacity most_strays acked start_items garbage published received offered delivered begins most_missing above law)
