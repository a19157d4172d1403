use Rattle.stab_core.proofs.TooFewLabels.{too_few_is_lawful, too_few_labels_break}
use Rattle.stab_core.proofs.laws.two_labels_fewer_are_too_few.Goals as goal

pub returns-clause-lawful : goal.returns-clause-lawful
returns-clause-lawful c = too_few_is_lawful

pub returns-clause-broken : goal.returns-clause-broken
returns-clause-broken c = too_few_labels_break
