use Rattle.stab_line.proofs.StartLaws.{replay_obeys_start}
use Rattle.stab_line.proofs.session_laws.every_replay_obeys_the_law_of_its_start.Goals as goal

pub returns : goal.returns
returns c = replay_obeys_start
