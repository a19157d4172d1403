use Rattle.rignolda_wire.proofs.Fronts.{again}
use Rattle.rignolda_wire.proofs.laws.what_is_spelled_is_read.Goals as goal

pub returns : goal.returns
returns c = again
