use Rattle.std.proofs.Common.{rules, length}
use Rattle.stab_node.specs.UnderWay.{IsAllAcked}
use Rattle.stab_node.proofs.Prefixes.{all_within}
use Rattle.stab_node.proofs.downs.all_served.Goals as goal

pub returns : goal.returns
returns g c = λ _.
    all_within (IsAllAcked (length c.args.received.now)) g.D.SendSide.sent c.args.downs.now c.each.down-index (search rules)
    c.each.invariant
