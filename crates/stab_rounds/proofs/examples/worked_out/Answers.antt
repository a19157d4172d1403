use Rattle.std.proofs.Common.{refl}
use Rattle.stab_tree.specs.Steps.{depth_of}
use Rattle.stab_rounds.proofs.examples.worked_out.Goals as goal

pub returns-clause-enough : goal.returns-clause-enough
unfolding depth_of
returns-clause-enough c = (refl, refl, refl, refl)
