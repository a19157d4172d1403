use Rattle.stab_rounds.proofs.ReadRounds.{reading_brings}
use Rattle.stab_rounds.proofs.laws.reading_rounds_bring_acknowledgements.Goals as goal

pub returns : goal.returns
returns c p s events some within is_open = reading_brings p some s events within is_open
