use Rattle.rignolda_agent.proofs.Rising.{rise}
use Rattle.rignolda_agent.proofs.root_laws.numbers_rise_by_one.Goals as goal

pub returns : goal.returns
returns c = rise
