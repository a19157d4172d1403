use Rattle.stab_core.proofs.LinkLaws.{replay_acked}
use Rattle.stab_core.proofs.laws.acknowledged_were_offered.Goals as goal

pub returns : goal.returns
returns c = replay_acked
