use Rattle.std.proofs.Common.{◌≡◌}
use Rattle.tests_runs.proofs.asks.ask_all.Given as goal

-- both ends belong to their link
abbrev pub invariant-asks : goal.invariant-asks
invariant-asks g l =
    (g.S.SendSide.link l.send ≡ g.S.SendSide.link l.fn.send)
    × (g.T.RecvSide.link l.recv ≡ g.T.RecvSide.link l.fn.recv)
