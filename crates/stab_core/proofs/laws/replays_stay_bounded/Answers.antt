use Rattle.stab_core.proofs.Bounded.{replay_bounded}
use Rattle.stab_core.proofs.laws.replays_stay_bounded.Goals as goal

pub returns : goal.returns
returns c = replay_bounded
