use Rattle.rignolda_ways.proofs.Steps.{dear_keeps}
use Rattle.rignolda_ways.proofs.laws.who_is_dear_need_not_be_asked.Goals as goal

pub returns : goal.returns
returns c net s turn heard is other dear = dear_keeps net s turn heard is other dear
