use Rattle.stab_line.proofs.Connecting.{new_connection_acknowledges}
use Rattle.stab_line.proofs.progress_laws.a_new_connection_acknowledges_the_item.Goals as goal

pub returns : goal.returns
returns c = new_connection_acknowledges
