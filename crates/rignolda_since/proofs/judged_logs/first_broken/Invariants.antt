use Rattle.std.proofs.Common.{ℕ, ◌<◌}
use Rattle.rignolda_since.specs.ObeysLogs.{LogObeys}
use Rattle.rignolda_since.proofs.judged_logs.first_broken.Given as goal

-- the nodes so far obey
abbrev pub invariant-nodes : goal.invariant-nodes
invariant-nodes l = (earlier : ℕ) → earlier < l.place → LogObeys l.judge l.logs earlier
