use Rattle.rignolda_agent.proofs.Rooms.{made_up_for, nothing_is_whole}
use Rattle.rignolda_agent.proofs.laws.what_is_left_out_is_made_up_for.Goals as goal

pub returns-clause-stays : goal.returns-clause-stays
returns-clause-stays c = nothing_is_whole

pub returns-clause-ends : goal.returns-clause-ends
returns-clause-ends c = made_up_for
