use Rattle.rignolda_agent.proofs.Told.{all_told}
use Rattle.rignolda_agent.proofs.root_laws.what_does_not_wait_is_told.Goals as goal

pub returns : goal.returns
returns c = all_told
