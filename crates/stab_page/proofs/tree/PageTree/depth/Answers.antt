use Rattle.std.proofs.lemmas.Grind.{common_steps}
use Rattle.std.proofs.Common.{arith}
use Rattle.stab_tree.specs.Steps.{depth_of}
use Rattle.stab_page.proofs.tree.PageTree.depth.Goals as goal

pub returns-clause-depth : goal.returns-clause-depth
unfolding depth_of
returns-clause-depth c = grind (arith, common_steps)
