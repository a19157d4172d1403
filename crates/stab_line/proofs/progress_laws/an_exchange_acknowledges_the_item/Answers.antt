use Rattle.stab_line.proofs.Exchanges.{exchange_acknowledges}
use Rattle.stab_line.proofs.progress_laws.an_exchange_acknowledges_the_item.Goals as goal

pub returns : goal.returns
returns c = exchange_acknowledges
