use Rattle.std.proofs.Common.{ap, sym, ◌∙◌, ◌++◌}
use Rattle.stab_node.specs.UnderWay.{with_seen}
use Rattle.stab_node.proofs.UnderWay.{delivered_with_seen}
use Rattle.stab_node.proofs.upstream.see.Goals as goal

-- what is added is what the upper end delivers
pub returns-clause-received : goal.returns-clause-received
returns-clause-received g c = λ initial was.
    let before = g.U.RecvSide.received c.args.up.now in
    c.add_seen.ensures
    ∙ (ap (λ items. with_seen items c.in_ok-seen.seen) (c.reserve.ensures.items ∙ was)
    ∙ (delivered_with_seen initial before c.in_ok-seen.seen ∙ sym (ap (λ r. initial ++ r.delivered) c.in_ok-seen.ensures.account)))
