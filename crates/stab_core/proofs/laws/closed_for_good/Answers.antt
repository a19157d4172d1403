use Rattle.stab_core.proofs.Replays.{replay_after_close}
use Rattle.stab_core.proofs.laws.closed_for_good.Goals as goal

pub returns : goal.returns
returns c = replay_after_close
