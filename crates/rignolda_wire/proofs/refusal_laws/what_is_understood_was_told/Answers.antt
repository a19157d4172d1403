use Rattle.rignolda_wire.proofs.Told.{was_told}
use Rattle.rignolda_wire.proofs.refusal_laws.what_is_understood_was_told.Goals as goal

pub returns : goal.returns
returns c = was_told
