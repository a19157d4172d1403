use Rattle.stab_treecore.proofs.NodesSince.{follows_since}
use Rattle.stab_treecore.proofs.change_laws.children_follow_their_parents.Goals as goal

pub returns : goal.returns
returns c tree s changes child parent is is_child spare =
    follows_since tree s changes child is spare c.link_law_from_any_state.ensures parent is_child
