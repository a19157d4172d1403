use Rattle.std.proofs.Common.{◌<◌, ◌≤◌, ◌+◌, ◌-◌, ◌*◌, length}
use Rattle.stab_tree.specs.Steps.{depth_of}
use Rattle.stab_treecore.specs.NodeLaws.{capacity_into}
use Rattle.stab_judge.proofs.Climbing.{Climbing}
use Rattle.rignolda_since.specs.ObeysLogs.{kept_for, strays_at}
use Rattle.rignolda_since.proofs.judged_logs.strays_at.Given as goal

-- the sum so far, and what is still above; it is small enough
abbrev pub invariant-links : goal.invariant-links
invariant-links l =
    let parents = l.judge.tree.parents in
    let left = depth_of parents l.fn.node - l.counter in
    (l.at < length l.tree.parents)
    × (l.strays ≤ 131070 * l.counter)
    × Climbing parents (λ w. capacity_into l.judge w + kept_for parents l.judge.openings.hold w) left l.at l.strays (strays_at l.judge l.fn.node)
