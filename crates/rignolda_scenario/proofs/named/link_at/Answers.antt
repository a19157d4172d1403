use Rattle.std.proofs.Common.{[], get_or, sym}
use Rattle.serde_json.specs.Data.{string}
use Rattle.rignolda_scenario.proofs.Tabled.{link_there}
use Rattle.rignolda_scenario.proofs.named.link_at.Goals as goal

pub returns : goal.returns
returns c = λ names are. link_there c.args.tree.now (string (get_or names c.args.place [])) c.in_ok-node.node c.in_ok-link.link (c.in_ok-node.ensures c.args.tree.now names are) (sym c.in_ok-link.ensures.value)
