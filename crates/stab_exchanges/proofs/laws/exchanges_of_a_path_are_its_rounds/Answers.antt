use Rattle.stab_exchanges.proofs.TreeRuns.{exchanges_are_rounds}
use Rattle.stab_exchanges.proofs.laws.exchanges_of_a_path_are_its_rounds.Goals as goal

pub returns : goal.returns
returns c = exchanges_are_rounds
