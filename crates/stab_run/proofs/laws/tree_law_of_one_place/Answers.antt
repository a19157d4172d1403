use Rattle.std.proofs.Common.{◌≡◌, ◌*◌, ◌+◌, subst, arith}
use Rattle.stab_tree.specs.Steps.{depth_of}
use Rattle.stab_treecore.specs.NodeLaws.{held_bound, most_missing, most_strays, path_garbage}
use Rattle.stab_treecore.specs.TreeLaw.{TreeLaw}
use Rattle.stab_run.proofs.laws.tree_law_of_one_place.Goals as goal

pub returns : goal.returns
returns c net received tree counted all_one law node within =
    let depth = depth_of net.tree.parents node in
    let held = held_bound net node in
    let garbage = path_garbage net node in
    let few : most_strays net node ≡ depth + held =
    omega (arith, c.bounds_of_one_capacity.ensures.strays net 1 node tree counted all_one within) in
    let first : most_missing net node ≡ 3 * depth =
    omega (arith, c.bounds_of_one_capacity.ensures.missing net 1 node tree counted all_one within) in
    subst (λ n. TreeLaw n (3 * depth) garbage net.published (received node)) few
    (subst (λ n. TreeLaw (most_strays net node) n garbage net.published (received node)) first (law node within))
