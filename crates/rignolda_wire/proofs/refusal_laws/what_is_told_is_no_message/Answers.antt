use Rattle.rignolda_wire.proofs.Told.{told_waits}
use Rattle.rignolda_wire.proofs.refusal_laws.what_is_told_is_no_message.Goals as goal

pub returns : goal.returns
returns c = told_waits
