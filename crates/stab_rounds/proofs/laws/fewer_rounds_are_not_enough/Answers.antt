use Rattle.stab_rounds.proofs.Slowest.{rounds_not_enough, slow_count, slow_lawful}
use Rattle.stab_rounds.proofs.laws.fewer_rounds_are_not_enough.Goals as goal

pub returns-clause-lawful : goal.returns-clause-lawful
returns-clause-lawful c = slow_lawful

pub returns-clause-rounds : goal.returns-clause-rounds
returns-clause-rounds c = slow_count

pub returns-clause-none : goal.returns-clause-none
returns-clause-none c = rounds_not_enough
