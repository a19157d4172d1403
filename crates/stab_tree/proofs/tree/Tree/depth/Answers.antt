use Rattle.std.proofs.Common.{◌≡◌, Some, slice_index, sym, ap, ◌∙◌, arith}
use Rattle.std.proofs.lemmas.Grind.{common_steps}
use Rattle.stab_tree.proofs.Trees.{DepthIs, stored_depth}
use Rattle.stab_tree.proofs.tree.Tree.depth.Goals as goal
use Rattle.stab_tree.proofs.tree.Tree.depth.Goals.{After-index-2}

-- the depth that is stored is the node's
depth_is : (c : After-index-2) → DepthIs c.args.self.now.parents c.args.node c.index-2.result.now
depth_is c =
    let read : c.index-2.result.now ≡ slice_index c.self.inside.depths.items c.args.node = grind (arith, common_steps) in
    let within = rw (← c.self.view_is) at c.requires in
    rw (← c.self.view_is) (stored_depth _ c.self.invariant.tree.rooted c.args.node c.index-2.result.now within (c.self.invariant.depths_are.depth_is c.args.node within ∙ ap Some (sym read)))

pub returns-clause-steps : goal.returns-clause-steps
returns-clause-steps c = (depth_is (goal.at.returns-clause-steps c).After-index-2).steps

pub returns-clause-few : goal.returns-clause-few
returns-clause-few c = (depth_is (goal.at.returns-clause-few c).After-index-2).few
