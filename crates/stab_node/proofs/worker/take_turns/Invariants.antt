use Rattle.std.proofs.Common.{◌≡◌, ℕ, List, All, false, map, option_map}
use Rattle.stab_node.specs.UnderWay.{IsInUse, IsUnderWay}
use Rattle.stab_node.specs.Turns.{HavePassedBefore}
use Rattle.stab_node.proofs.worker.take_turns.Given as goal

-- the work goes on as it began, over the same links, and the turns so far were let begin
abbrev pub invariant-turns : goal.invariant-turns
invariant-turns g l =
    ((initial : List ℕ)
    → IsUnderWay initial l.fn.received.items false
    (option_map g.U.RecvSide.received l.fn.up) (map g.D.SendSide.sent l.fn.downs)
    → IsUnderWay initial l.received.items l.upstream_ended
    (option_map g.U.RecvSide.received l.up) (map g.D.SendSide.sent l.downs))
    × (option_map g.U.RecvSide.link l.up ≡ option_map g.U.RecvSide.link l.fn.up)
    × (map g.D.SendSide.link l.downs ≡ map g.D.SendSide.link l.fn.downs)
    × HavePassedBefore (g.G.Gate.has_passed l.gate l.node) l.turn
    × (All IsInUse (map g.D.SendSide.sent l.fn.downs) → All IsInUse (map g.D.SendSide.sent l.downs))
