use Rattle.rignolda_wire.proofs.Told.{word_spelled}
use Rattle.rignolda_wire.proofs.word_laws.a_word_that_is_read_was_spelled.Goals as goal

pub returns : goal.returns
returns c = word_spelled
