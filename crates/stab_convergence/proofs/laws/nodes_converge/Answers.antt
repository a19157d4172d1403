use Rattle.stab_convergence.proofs.Meanwhile.{has_all_before}
use Rattle.stab_convergence.proofs.laws.nodes_converge.Goals as goal

pub returns : goal.returns
returns c kind each tree s before after later rounds node is is_node spare is_middle is_open few are_rounds enough =
    has_all_before c.link_law_from_any_state.ensures c.sharper_link_law_from_any_state.ensures c.links_pass_on_exactly.ensures tree s before after later
    node is is_node spare is_middle kind each rounds is_open few are_rounds enough
