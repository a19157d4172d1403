use Rattle.stab_line.proofs.RegisterLines.{registers_are_line}
use Rattle.stab_line.proofs.register_laws.registers_are_a_line.Goals as goal

pub returns : goal.returns
returns c = registers_are_line
