use Rattle.std.proofs.Common.{◌≡◌, ◌+◌, ◌-◌, ◌<◌, length, option_map}
use Rattle.stab_tree.specs.Steps.{depth_at, steps_below}
use Rattle.stab_tree.proofs.parents.find_depth.Given as goal

-- the steps so far and those from here on are the depth
abbrev pub invariant-loop-steps : goal.invariant-loop-steps
invariant-loop-steps l =
    (l.at < length l.parents) × (depth_at l.parents l.node ≡ option_map (λ k. l.steps + k) (steps_below l.parents (length l.parents - l.steps) l.at))
