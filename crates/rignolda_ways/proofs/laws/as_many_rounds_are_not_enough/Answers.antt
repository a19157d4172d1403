use Rattle.std.proofs.Common.{◌∙◌, zero, suc, [], refl, arith}
use Rattle.rignolda_ways.proofs.Stairs.{chain, distant, last_wrong, lawful, slow, slow_long, slow_run, start}
use Rattle.rignolda_ways.proofs.laws.as_many_rounds_are_not_enough.Goals as goal

pub returns : goal.returns
returns c zero some few = absurd (omega (arith, some))
returns c (suc m) some few = (
  chain (suc m),
  start,
  slow m (suc m) start,
  refl,
  lawful (suc m),
  slow_run m (suc m) [] start,
  slow_long m (suc m) start,
  omega arith,
  distant (suc m) m (omega arith),
  last_wrong m few ∙ omega arith,
)
