use Rattle.stab_core.proofs.CounterExamples.{any_ack_breaks}
use Rattle.stab_core.proofs.laws.any_acknowledgement_breaks_the_link_law.Goals as goal

pub returns-clause-broken : goal.returns-clause-broken
returns-clause-broken c = any_ack_breaks
