use Rattle.std.proofs.Common.{◌≡◌, ◌≤◌, Some, subst, sym}
use Rattle.stab_tree.specs.Nodes.{parent_at}
use Rattle.rignolda_verdict.specs.Costs.{greatest_below}
use Rattle.rignolda_verdict.proofs.Widest.{law_by_widest, no_wider, own_law_by_widest}
use Rattle.rignolda_verdict.proofs.laws.a_restart_costs_no_more_than_its_line_says.Goals as goal

pub returns-clause-widest : goal.returns-clause-widest
returns-clause-widest c = no_wider

pub returns-clause-beneath : goal.returns-clause-beneath
returns-clause-beneath c net s before after w parent child node list is first none at_rest has_above is_child reaches rest_is is_faulty widths =
    let child_of_net : parent_at net.tree.parents child ≡ Some w = subst (λ parents. parent_at parents child ≡ Some w) is.parents is_child in
    law_by_widest _ _ _ _ _ (subst (λ n. n ≤ greatest_below net w) (sym (widths child)) (no_wider net w child child_of_net)) (widths w)
    (c.one_fault_in_a_tree_at_rest.ensures.beneath net.tree s before after w parent child node list is first none at_rest has_above is_child reaches
    rest_is is_faulty)

pub returns-clause-list : goal.returns-clause-list
returns-clause-list c net s before after w child node list is first none at_rest is_child reaches rest_is is_faulty widths =
    let child_of_net : parent_at net.tree.parents child ≡ Some w = subst (λ parents. parent_at parents child ≡ Some w) is.parents is_child in
    own_law_by_widest _ _ (subst (λ n. n ≤ greatest_below net w) (sym (widths child)) (no_wider net w child child_of_net))
    (c.one_fault_in_a_tree_at_rest.ensures.list net.tree s before after w child node list is first none at_rest is_child reaches rest_is is_faulty)
