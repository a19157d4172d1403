use Rattle.stab_line.proofs.Connecting.{connects_to_turn}
use Rattle.stab_line.proofs.progress_laws.a_new_connection_gives_the_sender_the_turn.Goals as goal

pub returns : goal.returns
returns c = connects_to_turn
