use Rattle.std.proofs.Common.{◌≡◌, ◌<◌, ◌≤◌, ◌+◌, ◌-◌, Some, length}
use Rattle.stab_treecore.specs.Moment.{published_above, published_since}
use Rattle.stab_treecore.specs.Since.{gained, moment}
use Rattle.stab_treecore.specs.WholeTree.{WholeTree}
use Rattle.stab_tree.specs.Nodes.{root_of}
use Rattle.stab_tree.specs.Steps.{ancestor, depth_of}
use Rattle.rignolda_scenario.proofs.count.top.Given as goal

-- what is published for the node is that for the one that is reached, from which as many steps lead
-- to the root as are left
abbrev pub invariant-up : goal.invariant-up
invariant-up l =
    let depth = depth_of l.tree.parents l.fn.node in
    (l.at < length l.tree.parents) × (1 ≤ l.counter) × (1 ≤ depth → l.counter ≤ depth)
    × (ancestor l.tree.parents (depth + 1 - l.counter) l.at ≡ Some (root_of l.tree.parents))
    × ((s t : WholeTree) → s.parents ≡ l.tree.parents
    → published_above (moment s) (gained s t) (depth + 1 - l.counter) l.at ≡ published_since (moment s) (gained s t) l.fn.node)
