use Rattle.stab_treecore.proofs.Upwards.{complete_past_opening, half_law_past_opening, law_past_opening}
use Rattle.stab_treecore.proofs.laws.tree_law_past_an_opening.Goals as goal

pub returns-clause-tree_law : goal.returns-clause-tree_law
returns-clause-tree_law c most_strays most_missing opening garbage published received =
    law_past_opening most_strays opening garbage published received most_missing

pub returns-clause-half_tree_law : goal.returns-clause-half_tree_law
returns-clause-half_tree_law c = half_law_past_opening

pub returns-clause-complete_law : goal.returns-clause-complete_law
returns-clause-complete_law c most_strays most_missing opening garbage published received =
    complete_past_opening most_strays opening garbage published received most_missing
