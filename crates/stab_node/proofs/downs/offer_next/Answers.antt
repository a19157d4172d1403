use Rattle.std.proofs.Common.{◌≡◌, ◌⊎◌, sym, subst, length, slice_get, Some}
use Rattle.stab_node.specs.UnderWay.{OffersPrefix}
use Rattle.stab_node.specs.Work.{HasOffered}
use Rattle.stab_node.proofs.Offers.{all_after_offer}
use Rattle.stab_node.proofs.Prefixes.{offers_more}
use Rattle.stab_node.proofs.downs.offer_next.Goals as goal

pub returns-in_ok-offer-clause-offered : goal.returns-in_ok-offer-clause-offered
returns-in_ok-offer-clause-offered g c = λ prefix.
    let received = c.args.received.now in
    let before = g.D.SendSide.sent c.args.down.now in
    let next : slice_get received (length before.offered) ≡ Some c.in-Some.item =
    subst (λ s. slice_get received (length s.offered) ≡ Some c.in-Some.item) c.account.ensures c.in-Some.ensures.next in
    subst (OffersPrefix received) (sym c.offer.ensures.account)
    (offers_more received before c.in-Some.item c.offer.result next prefix)

-- where the item was offered, it waits, unless the end refused it
pub returns-in_ok-offer-clause-all : goal.returns-in_ok-offer-clause-all
returns-in_ok-offer-clause-all g c = λ in_use prefix.
    let before = g.D.SendSide.sent c.args.down.now in
    subst (λ s. g.D.SendSide.may_refuse_offer (g.D.SendSide.link c.args.down.now) ⊎ HasOffered c.args.received.now s) (sym c.in_ok-offer.ensures.account)
    (all_after_offer (g.D.SendSide.may_refuse_offer (g.D.SendSide.link c.args.down.now)) c.args.received.now before c.in-Some.item
    c.in_ok-offer.field-0 c.in_ok-offer.ensures.taken c.in_ok-offer.ensures.not_taken in_use)
