use Rattle.stab_line.proofs.RegisterExchanges.{registers_acknowledge}
use Rattle.stab_line.proofs.progress_laws.an_exchange_of_registers_acknowledges_the_item.Goals as goal

pub returns : goal.returns
returns c = registers_acknowledge
