use Rattle.std.proofs.Common.{refl}
use Rattle.stab_tree.specs.Steps.{depth_of}
use Rattle.stab_page.proofs.examples.worked_out.Goals as goal

pub returns-clause-stray_in_a_tree : goal.returns-clause-stray_in_a_tree
unfolding depth_of
returns-clause-stray_in_a_tree c = refl

pub returns-clause-opening_in_a_tree : goal.returns-clause-opening_in_a_tree
unfolding depth_of
returns-clause-opening_in_a_tree c = refl
