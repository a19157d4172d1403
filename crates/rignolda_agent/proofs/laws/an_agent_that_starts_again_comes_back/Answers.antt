use Rattle.rignolda_agent.proofs.Runs.{comes_back}
use Rattle.rignolda_agent.proofs.laws.an_agent_that_starts_again_comes_back.Goals as goal

pub returns : goal.returns
returns c = comes_back
