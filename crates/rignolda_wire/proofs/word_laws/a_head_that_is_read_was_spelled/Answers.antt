use Rattle.rignolda_wire.proofs.Told.{head_spelled}
use Rattle.rignolda_wire.proofs.word_laws.a_head_that_is_read_was_spelled.Goals as goal

pub returns : goal.returns
returns c = head_spelled
