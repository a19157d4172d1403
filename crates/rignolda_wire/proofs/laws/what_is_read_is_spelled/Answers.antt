use Rattle.rignolda_wire.proofs.Fronts.{spelled}
use Rattle.rignolda_wire.proofs.laws.what_is_read_is_spelled.Goals as goal

pub returns : goal.returns
returns c = spelled
