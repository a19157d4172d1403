use Rattle.rignolda_scenario.proofs.Tabled.{node_there}
use Rattle.rignolda_scenario.proofs.named.node_at.Goals as goal

pub returns : goal.returns
returns c = node_there c.args.nodes.now c.args.place c.listed.result c.listed.ensures
