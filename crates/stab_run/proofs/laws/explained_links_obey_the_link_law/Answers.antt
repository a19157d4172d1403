use Rattle.stab_node.specs.ByNode.{received_at}
use Rattle.stab_run.proofs.laws.explained_links_obey_the_link_law.Goals as goal

pub returns : goal.returns
returns c net report explained child parent is_child =
    c.link_law_of_an_edge.ensures.past_opening net child (received_at report.received parent) (received_at report.received child)
    (explained child parent is_child).edge
