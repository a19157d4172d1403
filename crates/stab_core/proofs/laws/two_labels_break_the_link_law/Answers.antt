use Rattle.stab_core.proofs.CounterExamples.{two_labels_break}
use Rattle.stab_core.proofs.laws.two_labels_break_the_link_law.Goals as goal

pub returns-clause-broken : goal.returns-clause-broken
returns-clause-broken c = two_labels_break
