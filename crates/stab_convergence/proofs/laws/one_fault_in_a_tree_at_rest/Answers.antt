use Rattle.stab_convergence.proofs.AtRest.{costs_beneath, costs_by_its_list, costs_of_a_restart, costs_of_a_strike}
use Rattle.stab_convergence.proofs.laws.one_fault_in_a_tree_at_rest.Goals as goal

pub returns-clause-strike : goal.returns-clause-strike
returns-clause-strike c tree s before after w parent node start is first none at_rest is_child reaches rest_is is_faulty =
    costs_of_a_strike c.link_law_from_any_state.ensures tree s before after is first none at_rest w parent start is_child rest_is is_faulty node reaches

pub returns-clause-restart : goal.returns-clause-restart
returns-clause-restart c tree s before after w parent list is first none at_rest is_child rest_is is_faulty =
    costs_of_a_restart c.link_law_from_any_state.ensures tree s before after is first none at_rest w list rest_is is_faulty parent is_child

pub returns-clause-beneath : goal.returns-clause-beneath
returns-clause-beneath c tree s before after w parent child node list is first none at_rest has_above is_child reaches rest_is is_faulty =
    costs_beneath c.link_law_from_any_state.ensures tree s before after is first none at_rest w list rest_is is_faulty parent has_above child is_child
    node reaches

pub returns-clause-list : goal.returns-clause-list
returns-clause-list c tree s before after w child node list is first none at_rest is_child reaches rest_is is_faulty =
    costs_by_its_list c.link_law_from_any_state.ensures tree s before after is first none at_rest w list rest_is is_faulty child is_child node reaches
