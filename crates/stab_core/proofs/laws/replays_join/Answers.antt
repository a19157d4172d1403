use Rattle.stab_core.proofs.Replays.{replay-append}
use Rattle.stab_core.proofs.laws.replays_join.Goals as goal

pub returns : goal.returns
returns c = replay-append
