use Rattle.stab_core.proofs.WorstStart.{worst_is_lawful, worst_strays, worst_reached, no_smaller, least_bounds}
use Rattle.stab_core.proofs.laws.bounds_are_reached.Goals as goal

pub returns-clause-lawful : goal.returns-clause-lawful
returns-clause-lawful c = worst_is_lawful

pub returns-clause-as_many_strays : goal.returns-clause-as_many_strays
returns-clause-as_many_strays c = worst_strays

pub returns-clause-reached : goal.returns-clause-reached
returns-clause-reached c = worst_reached

pub returns-clause-no_smaller : goal.returns-clause-no_smaller
returns-clause-no_smaller c = no_smaller

pub returns-clause-least : goal.returns-clause-least
returns-clause-least c = least_bounds
