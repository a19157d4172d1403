use Rattle.stab_line.proofs.RegisterLines.{registers_obey_law}
use Rattle.stab_line.proofs.register_laws.registers_obey_the_link_law.Goals as goal

pub returns : goal.returns
returns c = registers_obey_law
