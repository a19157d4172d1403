use Rattle.stab_run.specs.Reports.{as_report}
use Rattle.stab_run.proofs.laws.nothing_is_missing_below_ended_nodes.Goals as goal

pub returns : goal.returns
returns c net report tree fit root explained handed =
    let seen = as_report report in
    c.nothing_is_missing_below_ended_nodes.ensures net seen tree fit root.received
    (λ child parent is_child.
    let link = explained child parent is_child in
    c.edges_obey_as_counted.ensures net seen child parent link.edge link.counted)
    handed
