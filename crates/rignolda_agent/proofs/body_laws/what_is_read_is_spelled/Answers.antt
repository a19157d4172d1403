use Rattle.rignolda_agent.proofs.Spelled.{body_spelled}
use Rattle.rignolda_agent.proofs.body_laws.what_is_read_is_spelled.Goals as goal

pub returns : goal.returns
returns c = body_spelled
