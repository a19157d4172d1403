use Rattle.stab_treecore.proofs.Upwards.{complete_below}
use Rattle.stab_treecore.proofs.laws.complete_law_of_the_child.Goals as goal

pub returns : goal.returns
returns c capacity most_strays most_missing acked start_items garbage published received offered delivered begins all_acked at_parent law =
    complete_below capacity most_strays acked start_items garbage published received offered delivered begins most_missing all_acked at_parent law
