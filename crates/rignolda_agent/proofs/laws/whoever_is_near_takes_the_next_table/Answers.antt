use Rattle.rignolda_agent.proofs.Quarters.{near_takes, twice_reaches}
use Rattle.rignolda_agent.proofs.laws.whoever_is_near_takes_the_next_table.Goals as goal

pub returns-clause-takes : goal.returns-clause-takes
returns-clause-takes c = near_takes

pub returns-clause-twice : goal.returns-clause-twice
returns-clause-twice c = twice_reaches
