use Rattle.std.proofs.Common.{◌∙◌}
use Rattle.std.proofs.lemmas.List.{length-map}
use Rattle.stab_judge.specs.Reports.{OnePerNode}
use Rattle.stab_run.specs.Reports.{Reported, as_report, is_upstream}
use Rattle.stab_job.specs.JobValues.{JobValue, network}
use Rattle.stab_run.specs.Runs.{IsReport}
use Rattle.stab_run.specs.declared.links.Links.{Links}
use Rattle.rignolda_commands.proofs.laws.runs_are_accepted.Goals as goal

-- there is an entry for each node
all_entries : (links : Links) (job : JobValue) (report : Reported) → IsReport links job report
    → OnePerNode job.tree.parents (as_report report)
all_entries links job report is = record {
  received = is.nodes.received;
  acked = is.nodes.acked;
  ended_upstream = length-map report.ended is_upstream ∙ is.nodes.ended;
}

pub returns-clause-obeys : goal.returns-clause-obeys
returns-clause-obeys c links job report is =
    let net = network job in
    let laws = c.explained_reports_obey.ensures in
    laws.report net (as_report report) is.network.tree is.network.openings_fit (all_entries links job report is)
    (record { published = is.root.received; uncounted = is.root.acked })
    (λ child parent is_child.
    laws.link net (as_report report) child parent (is.edges child parent is_child).edge (is.edges child parent is_child).counted)
    is.handed_on

pub returns-clause-entries : goal.returns-clause-entries
returns-clause-entries c links job report is = all_entries links job report is
