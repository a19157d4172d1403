use Rattle.stab_line.proofs.SessionNumbers.{newest_is_known}
use Rattle.stab_line.proofs.session_laws.numbers_tell_the_newest_connection.Goals as goal

pub returns : goal.returns
returns c = newest_is_known
