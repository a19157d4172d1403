use Rattle.std.proofs.Common.{ℕ, ◌<◌}
use Rattle.rignolda_since.specs.ObeysSince.{NodeObeysSince}
use Rattle.rignolda_since.proofs.judged.first_broken.Given as goal

-- the nodes so far obey
abbrev pub invariant-nodes : goal.invariant-nodes
invariant-nodes l = (earlier : ℕ) → earlier < l.place → NodeObeysSince l.judge l.lists l.report earlier
