use Rattle.stab_core.proofs.FewerLabels.{fewer_labels_link_law}
use Rattle.stab_core.proofs.laws.one_label_fewer_is_enough.Goals as goal

pub returns : goal.returns
returns c = λ p start events some enough. fewer_labels_link_law p start some enough events
