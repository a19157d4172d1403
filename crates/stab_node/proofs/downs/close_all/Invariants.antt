use Rattle.std.proofs.Common.{◌≡◌, true, map}
use Rattle.std.specs.List.{AllWithin}
use Rattle.stab_node.specs.UnderWay.{but_for_the_close}
use Rattle.stab_node.proofs.downs.close_all.Given as goal

-- the ends so far are closed, and nothing else has changed
abbrev pub invariant-each : goal.invariant-each
invariant-each g l =
    AllWithin (λ d. (g.D.SendSide.sent d).closed ≡ true) l.downs 0 l.down-index
    × (map (λ d. but_for_the_close (g.D.SendSide.sent d)) l.downs
    ≡ map (λ d. but_for_the_close (g.D.SendSide.sent d)) l.fn.downs)
    × (map g.D.SendSide.link l.downs ≡ map g.D.SendSide.link l.fn.downs)
