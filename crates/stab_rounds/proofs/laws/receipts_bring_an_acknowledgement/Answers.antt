use Rattle.stab_rounds.proofs.Receipts.{receipts_bring}
use Rattle.stab_rounds.proofs.laws.receipts_bring_an_acknowledgement.Goals as goal

pub returns : goal.returns
returns c = receipts_bring
