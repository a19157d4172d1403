use Rattle.std.proofs.Common.{◌≡◌, ◌<◌, ℕ, length, Some, slice_index}
use Rattle.stab_tree.specs.Steps.{depth_at}
use Rattle.stab_tree.proofs.parents.find_depths.Given as goal

-- each node so far has its depth
abbrev pub invariant-loop-node : goal.invariant-loop-node
invariant-loop-node l =
    (length l.depths.items ≡ l.node) × ((w : ℕ) → w < l.node → depth_at l.parents w ≡ Some (slice_index l.depths.items w))
