use Rattle.rignolda_wire.proofs.Written.{head_and_tail}
use Rattle.rignolda_wire.proofs.laws.a_message_is_its_head_and_tail.Goals as goal

pub returns : goal.returns
returns c = head_and_tail
