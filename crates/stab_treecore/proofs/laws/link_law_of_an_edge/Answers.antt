use Rattle.stab_core.specs.LinkLaw.{LinkLaw}
use Rattle.stab_treecore.proofs.Edges.{edge_into_obeys, edge_obeys}
use Rattle.stab_treecore.proofs.laws.link_law_of_an_edge.Goals as goal

pub returns-clause-delivered : goal.returns-clause-delivered
returns-clause-delivered c = edge_obeys LinkLaw c.every_replay_obeys_the_link_law.ensures

pub returns-clause-past_opening : goal.returns-clause-past_opening
returns-clause-past_opening c = edge_into_obeys LinkLaw c.every_replay_obeys_the_link_law.ensures
