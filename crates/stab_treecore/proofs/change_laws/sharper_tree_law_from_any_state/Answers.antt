use Rattle.stab_treecore.proofs.NodesSince.{sharper_law_since}
use Rattle.stab_treecore.proofs.change_laws.sharper_tree_law_from_any_state.Goals as goal

pub returns : goal.returns
returns c =
    λ tree s changes node is is_node spare.
    sharper_law_since tree s changes node is is_node spare c.sharper_link_law_from_any_state.ensures
