use Rattle.std.proofs.Common.{ℕ, ◌<◌}
use Rattle.stab_judge.specs.Obeys.{NodeObeys}
use Rattle.stab_judge.proofs.judge.Judge.first_broken.Given as goal

-- the nodes so far obey
abbrev pub invariant-nodes : goal.invariant-nodes
invariant-nodes l = (earlier : ℕ) → earlier < l.place → NodeObeys l.self l.report earlier
