use Rattle.stab_node.specs.ByNode.{received_at}
use Rattle.stab_run.proofs.laws.explained_reports_obey_the_tree_law.Goals as goal

pub returns-clause-tree_law : goal.returns-clause-tree_law
returns-clause-tree_law c net report tree fit root explained =
    c.tree_law_of_edges.ensures net (received_at report.received) tree fit root.received
    (λ child parent is_child. (explained child parent is_child).edge)

pub returns-clause-half_tree_law : goal.returns-clause-half_tree_law
returns-clause-half_tree_law c net report tree fit root explained =
    c.half_tree_law_at_every_node.ensures net (received_at report.received) (returns-clause-tree_law c net report tree fit root explained)

pub returns-clause-sharper_tree_law : goal.returns-clause-sharper_tree_law
returns-clause-sharper_tree_law c net report tree fit root explained =
    c.sharper_tree_law_of_edges.ensures net (received_at report.received) tree fit root.received
    (λ child parent is_child. (explained child parent is_child).edge)
