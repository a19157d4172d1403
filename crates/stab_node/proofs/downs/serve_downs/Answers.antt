use Rattle.std.proofs.Common.{rules, ◌∙◌}
use Rattle.std.proofs.Math.Seq.{map-set_same}
use Rattle.std.proofs.lemmas.List.Elements.{AllWithin-more_set}
use Rattle.stab_node.specs.UnderWay.{IsInUse, OffersPrefix}
use Rattle.stab_node.specs.Work.{OffersUnlessRefused}
use Rattle.stab_node.proofs.Prefixes.{all_but_one, at_place}
use Rattle.stab_node.proofs.Offers.{all_of_within}
use Rattle.stab_node.proofs.downs.serve_downs.Goals as goal

pub returns-in_err-serve_down-clause-offered : goal.returns-in_err-serve_down-clause-offered
returns-in_err-serve_down-clause-offered g c = λ all.
    let P = OffersPrefix c.args.received.now in
    let before = c.each.invariant.0 all in
    all_but_one P g.D.SendSide.sent c.each.downs c.each.down-index c.serve_down.new.down
    (c.serve_down.ensures.offered
    (at_place P g.D.SendSide.sent c.each.downs c.each.down-index c.down-item.result (search rules) before))
    before

pub returns-in_err-serve_down-clause-in_use : goal.returns-in_err-serve_down-clause-in_use
returns-in_err-serve_down-clause-in_use g c = λ all.
    let before = c.each.invariant.2 all in
    all_but_one IsInUse g.D.SendSide.sent c.each.downs c.each.down-index c.serve_down.new.down
    (c.serve_down.ensures.in_use
    (at_place IsInUse g.D.SendSide.sent c.each.downs c.each.down-index c.down-item.result (search rules) before))
    before

pub returns-in_err-serve_down-clause-links : goal.returns-in_err-serve_down-clause-links
returns-in_err-serve_down-clause-links g c =
    map-set_same g.D.SendSide.link c.each.downs c.each.down-index c.serve_down.new.down c.down-item.result
    c.serve_down.ensures.link ∙ c.each.invariant.1

pub each-preserved : goal.each-preserved
each-preserved g c =
    let P = OffersPrefix c.args.received.now in (
      λ all. let before = c.each.invariant.0 all in
          all_but_one P g.D.SendSide.sent c.each.downs c.each.down-index c.serve_down.new.down
          (c.serve_down.ensures.offered
          (at_place P g.D.SendSide.sent c.each.downs c.each.down-index c.down-item.result (search rules) before))
          before,
      map-set_same g.D.SendSide.link c.each.downs c.each.down-index c.serve_down.new.down c.down-item.result
          c.serve_down.ensures.link ∙ c.each.invariant.1,
      λ all. let before = c.each.invariant.2 all in
          all_but_one IsInUse g.D.SendSide.sent c.each.downs c.each.down-index c.serve_down.new.down
          (c.serve_down.ensures.in_use
          (at_place IsInUse g.D.SendSide.sent c.each.downs c.each.down-index c.down-item.result (search rules) before))
          before,
      λ in_use all.
          AllWithin-more_set c.each.downs c.each.down-index c.serve_down.new.down (search rules)
          (λ d. OffersUnlessRefused g.D.SendSide.may_refuse_offer c.args.received.now (g.D.SendSide.link d) (g.D.SendSide.sent d)) (c.each.invariant.3 in_use all)
          (c.in_ok-serve_down.ensures.all
          (at_place IsInUse g.D.SendSide.sent c.each.downs c.each.down-index c.down-item.result (search rules) (c.each.invariant.2 in_use))
          (at_place P g.D.SendSide.sent c.each.downs c.each.down-index c.down-item.result (search rules) (c.each.invariant.0 all))),
    )

pub returns-clause-all : goal.returns-clause-all
returns-clause-all g c = λ in_use all.
    all_of_within (λ d. OffersUnlessRefused g.D.SendSide.may_refuse_offer c.args.received.now (g.D.SendSide.link d) (g.D.SendSide.sent d))
    c.each.downs c.each.down-index (search rules) (c.each.invariant.3 in_use all)
