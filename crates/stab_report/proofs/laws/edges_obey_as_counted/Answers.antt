use Rattle.stab_report.proofs.Edges.{edge_obeys}
use Rattle.stab_report.proofs.laws.edges_obey_as_counted.Goals as goal

pub returns : goal.returns
returns c = edge_obeys c.every_replay_obeys_the_sharper_link_law.ensures
