use Rattle.stab_line.proofs.Lines.{line_obeys_law}
use Rattle.stab_line.proofs.laws.two_ends_on_a_line_obey_the_link_law.Goals as goal

pub returns : goal.returns
returns c = line_obeys_law
