use Rattle.rignolda_agent.proofs.Waiting.{applied_lacks_nothing, waits_well}
use Rattle.rignolda_agent.proofs.laws.what_waits_lacks_nothing.Goals as goal

pub returns-clause-stays : goal.returns-clause-stays
returns-clause-stays c = waits_well

pub returns-clause-applied : goal.returns-clause-applied
returns-clause-applied c = applied_lacks_nothing
