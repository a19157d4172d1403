use Rattle.std.proofs.Common.{length}
use Rattle.std.specs.List.{AllWithin}
use Rattle.stab_node.specs.UnderWay.{IsAllAcked}
use Rattle.stab_node.proofs.downs.all_served.Given as goal

-- the ends so far have everything acknowledged
abbrev pub invariant-each : goal.invariant-each
invariant-each g l =
    AllWithin (λ d. IsAllAcked (length l.received) (g.D.SendSide.sent d)) l.downs 0 l.down-index
