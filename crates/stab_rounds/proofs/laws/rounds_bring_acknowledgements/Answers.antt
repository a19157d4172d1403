use Rattle.stab_rounds.proofs.Counted.{rounds_bring}
use Rattle.stab_rounds.proofs.laws.rounds_bring_acknowledgements.Goals as goal

pub returns : goal.returns
returns c = rounds_bring
