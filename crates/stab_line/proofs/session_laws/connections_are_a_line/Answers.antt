use Rattle.stab_line.proofs.SessionLines.{run_is_line_run}
use Rattle.stab_line.proofs.session_laws.connections_are_a_line.Goals as goal

pub returns : goal.returns
returns c = run_is_line_run
