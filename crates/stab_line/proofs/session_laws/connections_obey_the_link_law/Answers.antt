use Rattle.stab_line.proofs.SessionLines.{link_obeys_law}
use Rattle.stab_line.proofs.session_laws.connections_obey_the_link_law.Goals as goal

pub returns : goal.returns
returns c = link_obeys_law
