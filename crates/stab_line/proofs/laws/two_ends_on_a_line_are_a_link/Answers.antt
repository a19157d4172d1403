use Rattle.stab_line.proofs.Lines.{line_is_replay}
use Rattle.stab_line.proofs.laws.two_ends_on_a_line_are_a_link.Goals as goal

pub returns : goal.returns
returns c = line_is_replay
