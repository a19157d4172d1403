use Rattle.stab_judge.proofs.Edges.{edge_obeys}
use Rattle.stab_judge.proofs.laws.explained_reports_obey.Goals as goal

pub returns-clause-link : goal.returns-clause-link
returns-clause-link c = edge_obeys c.edges_obey_as_counted.ensures
