use Rattle.std.proofs.Common.{rules, ◌≡◌, ◌∙◌, true}
use Rattle.std.proofs.Math.Seq.{map-set_same}
use Rattle.std.proofs.lemmas.List.Elements.{AllWithin-more_set}
use Rattle.stab_node.specs.UnderWay.{but_for_the_close}
use Rattle.stab_node.proofs.Prefixes.{all_within}
use Rattle.stab_node.proofs.downs.close_all.Goals as goal

pub returns-in_err-close_down-clause-accounts : goal.returns-in_err-close_down-clause-accounts
returns-in_err-close_down-clause-accounts g c =
    map-set_same (λ d. but_for_the_close (g.D.SendSide.sent d)) c.each.downs c.each.down-index
    c.close_down.new.down c.down-item.result c.close_down.ensures.account ∙ c.each.invariant.1

pub returns-in_err-close_down-clause-links : goal.returns-in_err-close_down-clause-links
returns-in_err-close_down-clause-links g c =
    map-set_same g.D.SendSide.link c.each.downs c.each.down-index c.close_down.new.down
    c.down-item.result c.close_down.ensures.link ∙ c.each.invariant.2

pub each-preserved : goal.each-preserved
each-preserved g c = (
  AllWithin-more_set c.each.downs c.each.down-index c.close_down.new.down (search rules)
      (λ d. (g.D.SendSide.sent d).closed ≡ true) c.each.invariant.0 (search rules),
  map-set_same (λ d. but_for_the_close (g.D.SendSide.sent d)) c.each.downs c.each.down-index
      c.close_down.new.down c.down-item.result c.close_down.ensures.account ∙ c.each.invariant.1,
  map-set_same g.D.SendSide.link c.each.downs c.each.down-index c.close_down.new.down
      c.down-item.result c.close_down.ensures.link ∙ c.each.invariant.2,
)

pub returns-clause-closed : goal.returns-clause-closed
returns-clause-closed g c =
    all_within (λ s. s.closed ≡ true) g.D.SendSide.sent c.each.downs c.each.down-index (search rules)
    c.each.invariant.0
