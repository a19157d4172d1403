use Rattle.std.proofs.Common.{◌≡◌, ◌<◌, ◌≤◌, ◌+◌, ◌-◌, ◌*◌, length}
use Rattle.stab_tree.specs.Steps.{depth_of}
use Rattle.stab_treecore.specs.NodeLaws.{capacity_into, held_bound, most_missing, strays_bound}
use Rattle.stab_tree.specs.NodeOpenings.{hold_at}
use Rattle.stab_judge.proofs.Climbing.{Climbing}
use Rattle.stab_judge.proofs.judge.Judge.bounds_at.Given as goal

-- the sums of the links so far, and what is still above; each is small enough
abbrev pub invariant-links : goal.invariant-links
invariant-links l =
    let parents = l.self.tree.parents in
    let left = depth_of parents l.fn.node - l.counter in
    (l.at < length parents)
    × (l.bounds.depth ≡ depth_of parents l.fn.node)
    × (l.bounds.link_strays ≤ 65535 * l.counter)
    × (l.bounds.opening_strays ≤ 65535 * l.counter)
    × (l.bounds.missing ≤ 131071 * l.counter)
    × Climbing parents (capacity_into l.self) left l.at l.bounds.link_strays (strays_bound l.self l.fn.node)
    × Climbing parents (hold_at parents l.self.openings.hold) left l.at l.bounds.opening_strays (held_bound l.self l.fn.node)
    × Climbing parents (λ child. 2 * capacity_into l.self child + 1) left l.at l.bounds.missing (most_missing l.self l.fn.node)
