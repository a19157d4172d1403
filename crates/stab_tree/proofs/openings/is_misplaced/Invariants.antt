use Rattle.std.proofs.Common.{◌≡◌, drop}
use Rattle.stab_tree.specs.NodeOpenings.{is_misplaced}
use Rattle.stab_tree.proofs.openings.is_misplaced.Given as goal

-- what the lists to come show, all of them show
abbrev pub invariant-nodes : goal.invariant-nodes
invariant-nodes l = is_misplaced l.tree.parents l.place (drop l.place l.lists) ≡ is_misplaced l.tree.parents 0 l.lists
