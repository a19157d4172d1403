use Rattle.rignolda_wire.proofs.Written.{written}
use Rattle.rignolda_wire.proofs.laws.a_message_is_written.Goals as goal

pub returns : goal.returns
returns c = written
