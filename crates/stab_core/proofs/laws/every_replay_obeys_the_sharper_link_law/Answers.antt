use Rattle.stab_core.proofs.LinkLaws.{replay_sharper_link_law}
use Rattle.stab_core.proofs.laws.every_replay_obeys_the_sharper_link_law.Goals as goal

pub returns : goal.returns
returns c = replay_sharper_link_law
