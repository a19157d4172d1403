use Rattle.stab_core.proofs.LinkLaws.{replay_half_law}
use Rattle.stab_core.proofs.laws.every_replay_obeys_the_half_law.Goals as goal

pub returns : goal.returns
returns c = replay_half_law
