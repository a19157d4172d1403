use Rattle.stab_line.proofs.RegisterLines.{registers_obey_start, empty_obey_start}
use Rattle.stab_line.proofs.register_laws.registers_obey_the_law_of_their_start.Goals as goal

pub returns-clause-any : goal.returns-clause-any
returns-clause-any c = registers_obey_start

pub returns-clause-empty : goal.returns-clause-empty
returns-clause-empty c = empty_obey_start
