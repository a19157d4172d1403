use Rattle.std.proofs.Common.{◌≡◌, ◌<◌, ◌≤◌, ◌+◌, ◌-◌, ◌*◌, length}
use Rattle.stab_treecore.specs.Moment.{old_backlog}
use Rattle.stab_treecore.specs.Since.{moment}
use Rattle.stab_tree.specs.Steps.{depth_of}
use Rattle.stab_treecore.specs.Paths.{path_sum, sum_above}
use Rattle.rignolda_scenario.proofs.count.old_backlogs.Given as goal

-- the sum so far, and what is still above
abbrev pub invariant-up : goal.invariant-up
invariant-up l =
    (l.at < length l.tree.parents) × (l.sum ≤ 36893488147419103232 * l.counter)
    × (l.sum + sum_above l.state.parents (λ w. length (old_backlog (moment l.state) w)) (depth_of l.state.parents l.fn.node - l.counter) l.at
    ≡ path_sum l.state.parents (λ w. length (old_backlog (moment l.state) w)) l.fn.node)
