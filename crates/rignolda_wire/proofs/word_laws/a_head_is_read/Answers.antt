use Rattle.rignolda_wire.proofs.Told.{head_again}
use Rattle.rignolda_wire.proofs.word_laws.a_head_is_read.Goals as goal

pub returns : goal.returns
returns c = head_again
