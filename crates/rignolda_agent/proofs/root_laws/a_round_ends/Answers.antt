use Rattle.rignolda_agent.proofs.RootRounds.{round_ends}
use Rattle.rignolda_agent.proofs.root_laws.a_round_ends.Goals as goal

pub returns : goal.returns
returns c = round_ends
