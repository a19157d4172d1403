use Rattle.stab_line.proofs.Exchanges.{exchanges_hand_on}
use Rattle.stab_line.proofs.progress_laws.each_exchange_hands_on_an_item.Goals as goal

pub returns : goal.returns
returns c = exchanges_hand_on
