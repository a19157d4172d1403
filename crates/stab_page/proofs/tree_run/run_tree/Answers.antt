use Rattle.std.proofs.lemmas.Grind.{common_steps}
use Rattle.std.proofs.Common.{ap, ◌∙◌, arith}
use Rattle.stab_page.proofs.tree_run.run_tree.Goals as goal

pub loop-code-preserved : goal.loop-code-preserved
loop-code-preserved c = (
  grind (arith, common_steps),
  grind (arith, common_steps),
  grind (arith, common_steps),
  ap (λ t. t.published) c.apply-effect.ensures.steps ∙ c.loop-code.invariant.3,
  c.apply-effect.ensures.grows c.loop-code.code-index c.loop-code.invariant.4,
)
