use Rattle.rignolda_wire.proofs.Told.{word_again}
use Rattle.rignolda_wire.proofs.word_laws.a_word_is_read.Goals as goal

pub returns : goal.returns
returns c = word_again
