use Rattle.stab_treecore.proofs.AtNodes.{strays-unopened, garbage-unopened}
use Rattle.stab_treecore.proofs.laws.bounds_without_openings.Goals as goal

pub returns-clause-strays : goal.returns-clause-strays
returns-clause-strays c = strays-unopened

pub returns-clause-garbage : goal.returns-clause-garbage
returns-clause-garbage c = garbage-unopened
