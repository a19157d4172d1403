use Rattle.std.proofs.Common.{◌≡◌, map}
use Rattle.std.specs.List.{range_with_len}
use Rattle.stab_convergence.specs.Greatest.{greatest}
use Rattle.rignolda_verdict.specs.Costs.{capacity_to}
use Rattle.rignolda_verdict.proofs.costs.greatest_below.Given as goal

-- the greatest of the nodes so far
abbrev pub invariant-nodes : goal.invariant-nodes
invariant-nodes l = l.greatest ≡ greatest (map (capacity_to l.judge l.node) (range_with_len 0 l.place))
