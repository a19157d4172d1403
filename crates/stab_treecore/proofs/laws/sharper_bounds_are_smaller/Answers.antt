use Rattle.stab_treecore.proofs.SharperNodes.{without_and_strays, fewest_no_more, fewest-same}
use Rattle.stab_treecore.proofs.laws.sharper_bounds_are_smaller.Goals as goal

pub returns-clause-without_strays : goal.returns-clause-without_strays
returns-clause-without_strays c = without_and_strays

pub returns-clause-at_any_rate : goal.returns-clause-at_any_rate
returns-clause-at_any_rate c = fewest_no_more

pub returns-clause-of_one_capacity : goal.returns-clause-of_one_capacity
returns-clause-of_one_capacity c net capacity node tree one_each alike is_node deep =
    fewest-same net capacity tree one_each alike node is_node deep
