use Rattle.stab_exchanges.proofs.Counted.{completed_acknowledge}
use Rattle.stab_exchanges.proofs.laws.completed_exchanges_acknowledge_items.Goals as goal

pub returns : goal.returns
returns c = completed_acknowledge
