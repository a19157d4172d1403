use Rattle.stab_line.proofs.MakerBegins.{maker_breaks}
use Rattle.stab_line.proofs.session_laws.a_maker_that_begins_breaks_the_half_law.Goals as goal

pub returns : goal.returns
returns c = maker_breaks
