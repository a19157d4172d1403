use Rattle.rignolda_agent.proofs.Rising.{over_restarts}
use Rattle.rignolda_agent.proofs.root_laws.numbers_rise_over_restarts.Goals as goal

pub returns : goal.returns
returns c = over_restarts
