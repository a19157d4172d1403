use Rattle.std.proofs.Common.{◌≡◌, length, Some, ◌∙◌, arith}
use Rattle.std.proofs.lemmas.Grind.{common_steps}
use Rattle.stab_tree.specs.Nodes.{parent_at}
use Rattle.stab_tree.proofs.Depths.{step_on}
use Rattle.stab_tree.proofs.parents.find_depth.Goals as goal

pub loop-steps-preserved : goal.loop-steps-preserved
loop-steps-preserved c =
    let ps = c.args.parents.now in
    let has : parent_at ps c.loop-steps.at ≡ Some c.in-Some.parent = grind (arith, common_steps) in
    (rw c.index-at.ensures (c.requires.known _ _ has), rw c.index-at.ensures (c.loop-steps.invariant.1 ∙ step_on ps (length ps) c.loop-steps.steps c.loop-steps.at c.in-Some.parent c.loop-steps-test.true has))
