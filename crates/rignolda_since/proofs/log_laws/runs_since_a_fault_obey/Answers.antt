use Rattle.rignolda_since.proofs.Runs.{log_obeys}
use Rattle.rignolda_since.proofs.log_laws.runs_since_a_fault_obey.Goals as goal

pub returns-clause-moments : goal.returns-clause-moments
returns-clause-moments c net logs m gain node its log law behind =
    log_obeys net logs m gain node its log behind c.law_of_short_backlogs.ensures.sharper law

pub returns-clause-runs : goal.returns-clause-runs
returns-clause-runs c first net before after logs node network fit within spare its log =
    let every = c.every_schedule_with_faults_obeys_the_tree_law.ensures in
    log_obeys net logs _ _ node its log
    (λ parent is_child. c.children_follow_their_parents.ensures _ _ after node parent (every.states first before network fit) is_child spare)
    c.law_of_short_backlogs.ensures.sharper
    (every.sharper_tree_law first before after node network fit within spare)
