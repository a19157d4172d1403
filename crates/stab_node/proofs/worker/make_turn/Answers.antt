use Rattle.std.proofs.Common.{All, map, option_map, subst}
use Rattle.stab_node.specs.Work.{OffersUnlessRefused}
use Rattle.stab_node.specs.UnderWay.{OffersPrefix}
use Rattle.stab_node.proofs.UnderWay.{lower_served}
use Rattle.stab_node.proofs.worker.make_turn.Goals as goal

pub returns-in_err-serve_upstream-clause-under_way : goal.returns-in_err-serve_upstream-clause-under_way
returns-in_err-serve_upstream-clause-under_way g c = λ initial way.
    c.serve_upstream.ensures.under_way initial (map g.D.SendSide.sent c.args.downs.now) way

pub returns-in_err-serve_downs-clause-under_way : goal.returns-in_err-serve_downs-clause-under_way
returns-in_err-serve_downs-clause-under_way g c = λ initial way.
    lower_served initial c.serve_upstream.new.received.items c.serve_upstream.new.ended
    (option_map g.U.RecvSide.received c.serve_upstream.new.up)
    (map g.D.SendSide.sent c.args.downs.now) (map g.D.SendSide.sent c.serve_downs.new.downs)
    (subst (λ r. All (OffersPrefix r) (map g.D.SendSide.sent c.args.downs.now)
    → All (OffersPrefix r) (map g.D.SendSide.sent c.serve_downs.new.downs))
    c.deref.ensures.value c.serve_downs.ensures.offered)
    (c.serve_upstream.ensures.under_way initial (map g.D.SendSide.sent c.args.downs.now) way)

pub returns-then-upstream_ended-clause-under_way : goal.returns-then-upstream_ended-clause-under_way
returns-then-upstream_ended-clause-under_way g c = λ initial way.
    lower_served initial c.serve_upstream.new.received.items c.serve_upstream.new.ended
    (option_map g.U.RecvSide.received c.serve_upstream.new.up)
    (map g.D.SendSide.sent c.args.downs.now) (map g.D.SendSide.sent c.serve_downs.new.downs)
    (subst (λ r. All (OffersPrefix r) (map g.D.SendSide.sent c.args.downs.now)
    → All (OffersPrefix r) (map g.D.SendSide.sent c.serve_downs.new.downs))
    c.deref.ensures.value c.serve_downs.ensures.offered)
    (c.serve_upstream.ensures.under_way initial (map g.D.SendSide.sent c.args.downs.now) way)

pub returns-else-upstream_ended-clause-under_way : goal.returns-else-upstream_ended-clause-under_way
returns-else-upstream_ended-clause-under_way g c = λ initial way.
    lower_served initial c.serve_upstream.new.received.items c.serve_upstream.new.ended
    (option_map g.U.RecvSide.received c.serve_upstream.new.up)
    (map g.D.SendSide.sent c.args.downs.now) (map g.D.SendSide.sent c.serve_downs.new.downs)
    (subst (λ r. All (OffersPrefix r) (map g.D.SendSide.sent c.args.downs.now)
    → All (OffersPrefix r) (map g.D.SendSide.sent c.serve_downs.new.downs))
    c.deref.ensures.value c.serve_downs.ensures.offered)
    (c.serve_upstream.ensures.under_way initial (map g.D.SendSide.sent c.args.downs.now) way)

pub returns-then-upstream_ended-clause-offers : goal.returns-then-upstream_ended-clause-offers
returns-then-upstream_ended-clause-offers g c = λ initial way in_use.
    let sent = g.D.SendSide.sent in
    subst (λ r. All (OffersPrefix r) (map sent c.args.downs.now)
    → All (λ d. OffersUnlessRefused g.D.SendSide.may_refuse_offer r (g.D.SendSide.link d) (sent d)) c.serve_downs.new.downs)
    c.deref.ensures.value (c.in_ok-serve_downs.ensures.all in_use)
    (c.serve_upstream.ensures.under_way initial (map sent c.args.downs.now) way).lower

pub returns-else-upstream_ended-clause-offers : goal.returns-else-upstream_ended-clause-offers
returns-else-upstream_ended-clause-offers g c = λ initial way in_use.
    let sent = g.D.SendSide.sent in
    subst (λ r. All (OffersPrefix r) (map sent c.args.downs.now)
    → All (λ d. OffersUnlessRefused g.D.SendSide.may_refuse_offer r (g.D.SendSide.link d) (sent d)) c.serve_downs.new.downs)
    c.deref.ensures.value (c.in_ok-serve_downs.ensures.all in_use)
    (c.serve_upstream.ensures.under_way initial (map sent c.args.downs.now) way).lower
