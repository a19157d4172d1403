use Rattle.std.proofs.Common.{◌≡◌, All, map}
use Rattle.std.specs.List.{AllWithin}
use Rattle.stab_node.specs.Work.{OffersUnlessRefused}
use Rattle.stab_node.specs.UnderWay.{IsInUse, OffersPrefix}
use Rattle.stab_node.proofs.downs.serve_downs.Given as goal

-- each end offers a prefix still, is in use, and belongs to its link; and those so far offered all
-- that they could
abbrev pub invariant-each : goal.invariant-each
invariant-each g l =
    (All (OffersPrefix l.received) (map g.D.SendSide.sent l.fn.downs)
    → All (OffersPrefix l.received) (map g.D.SendSide.sent l.downs))
    × (map g.D.SendSide.link l.downs ≡ map g.D.SendSide.link l.fn.downs)
    × (All IsInUse (map g.D.SendSide.sent l.fn.downs) → All IsInUse (map g.D.SendSide.sent l.downs))
    × (All IsInUse (map g.D.SendSide.sent l.fn.downs) → All (OffersPrefix l.received) (map g.D.SendSide.sent l.fn.downs)
    → AllWithin (λ d. OffersUnlessRefused g.D.SendSide.may_refuse_offer l.received (g.D.SendSide.link d) (g.D.SendSide.sent d)) l.downs 0 l.down-index)
