use Rattle.rignolda_agent.proofs.Above.{above_heard}
use Rattle.rignolda_agent.proofs.laws.the_root_goes_on_above_what_it_heard.Goals as goal

pub returns : goal.returns
returns c = above_heard
