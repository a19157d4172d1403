use Rattle.stab_line.proofs.Turns.{run_in_turn}
use Rattle.stab_line.proofs.session_laws.connections_stay_in_turn.Goals as goal

pub returns : goal.returns
returns c = run_in_turn
