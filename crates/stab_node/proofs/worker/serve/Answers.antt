use Rattle.std.proofs.Common.{false, map, option_map, subst, sym, ◌∙◌}
use Rattle.std.proofs.lemmas.Simd.{map-map}
use Rattle.stab_node.specs.UnderWay.{IsUnderWay, but_for_the_close}
use Rattle.stab_node.proofs.Offers.{new_in_use, still_offered}
use Rattle.stab_node.proofs.UnderWay.{begins, worked}
use Rattle.stab_node.proofs.worker.serve.Goals as goal

pub returns-clause-work : goal.returns-clause-work
returns-clause-work g c = λ new.
    let initial = c.args.initial.now in
    let up = option_map g.U.RecvSide.received c.args.up.now in
    let downs = map g.D.SendSide.sent c.args.downs.now in
    let begun : IsUnderWay initial c.in_ok-received.received.items false up downs =
    subst (λ r. IsUnderWay initial r false up downs)
    (sym c.in_ok-received.ensures.items) (begins initial up downs new) in
    worked initial c.take_turns.new.received.items (option_map g.U.RecvSide.received c.take_turns.new.up)
    (map g.D.SendSide.sent c.take_turns.new.downs) (map g.D.SendSide.sent c.close_all.new.downs)
    c.in_ok-ended.ended
    (map-map but_for_the_close g.D.SendSide.sent c.close_all.new.downs
    ∙ (c.close_all.ensures.accounts
    ∙ sym (map-map but_for_the_close g.D.SendSide.sent c.take_turns.new.downs)))
    c.in_ok-close_all.ensures.closed
    (c.in_ok-ended.ensures.under_way initial begun)

pub returns-clause-offers : goal.returns-clause-offers
returns-clause-offers g c = λ new.
    let initial = c.args.initial.now in
    let up = option_map g.U.RecvSide.received c.args.up.now in
    let downs = map g.D.SendSide.sent c.args.downs.now in
    let may = g.D.SendSide.may_refuse_offer in
    let received = c.take_turns.new.received.items in
    let begun : IsUnderWay initial c.in_ok-received.received.items false up downs =
    subst (λ r. IsUnderWay initial r false up downs)
    (sym c.in_ok-received.ensures.items) (begins initial up downs new) in
    let offered = c.in_ok-ended.ensures.offers initial begun (new_in_use downs new.lower) in
    still_offered may received g.D.SendSide.link g.D.SendSide.sent c.take_turns.new.downs c.close_all.new.downs
    c.close_all.ensures.links c.close_all.ensures.accounts offered
