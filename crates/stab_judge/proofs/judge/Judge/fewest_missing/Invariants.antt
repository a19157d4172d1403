use Rattle.std.proofs.Common.{◌≡◌, ◌<◌, ◌≤◌, ◌+◌, ◌-◌, ◌*◌, length}
use Rattle.stab_tree.specs.Steps.{depth_of}
use Rattle.stab_treecore.specs.NodeLaws.{capacity_into}
use Rattle.stab_treecore.specs.SharperLaw.{fewest_missing}
use Rattle.stab_judge.proofs.Climbing.{PeakClimbing}
use Rattle.stab_judge.proofs.judge.Judge.fewest_missing.Given as goal

-- what the links so far add, and what is still above; it is small enough
abbrev pub invariant-links : goal.invariant-links
invariant-links l =
    let parents = l.self.tree.parents in
    let left = depth_of parents l.fn.node - l.counter in
    (l.at < length parents)
    × (l.paid ≤ 65536 * l.counter)
    × (l.more ≤ 65535)
    × PeakClimbing parents (capacity_into l.self) left l.at l.paid l.more (fewest_missing l.self l.fn.node)
