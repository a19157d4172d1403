use Rattle.stab_exchanges.proofs.RoundsOf.{completed_are_rounds, anew_is_within}
use Rattle.stab_exchanges.proofs.laws.completed_exchanges_are_reading_rounds.Goals as goal

pub returns-clause-within : goal.returns-clause-within
returns-clause-within c = anew_is_within

pub returns-clause-rounds : goal.returns-clause-rounds
returns-clause-rounds c = completed_are_rounds
