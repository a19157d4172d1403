use Rattle.std.specs.Int.{w32, to_be_bytes}
use Rattle.rignolda_wire.specs.Said.{spelling}
use Rattle.rignolda_wire.proofs.Told.{count_again, down_again, message_again, word_again}
use Rattle.rignolda_wire.proofs.word_laws.words_come_apart.Goals as goal

pub returns-clause-down : goal.returns-clause-down
returns-clause-down c = down_again

pub returns-clause-down_with : goal.returns-clause-down_with
returns-clause-down_with c expect g m greets is = (word_again g (spelling m) greets, message_again expect m is)

pub returns-clause-up : goal.returns-clause-up
returns-clause-up c g reports greets low = (word_again g (to_be_bytes w32 reports) greets, count_again reports low)
