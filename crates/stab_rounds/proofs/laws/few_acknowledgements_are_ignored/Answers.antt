use Rattle.stab_rounds.proofs.Ignored.{few_ignored}
use Rattle.stab_rounds.proofs.laws.few_acknowledgements_are_ignored.Goals as goal

pub returns : goal.returns
returns c = few_ignored
