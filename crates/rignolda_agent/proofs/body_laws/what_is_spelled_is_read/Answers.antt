use Rattle.rignolda_agent.proofs.Again.{body_again}
use Rattle.rignolda_agent.proofs.body_laws.what_is_spelled_is_read.Goals as goal

pub returns : goal.returns
returns c = body_again
