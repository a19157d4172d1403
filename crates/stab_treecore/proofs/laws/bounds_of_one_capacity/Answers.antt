use Rattle.stab_treecore.proofs.AtNodes.{strays-same, missing-same}
use Rattle.stab_treecore.proofs.laws.bounds_of_one_capacity.Goals as goal

pub returns-clause-strays : goal.returns-clause-strays
returns-clause-strays c net capacity node tree one_each alike = strays-same net capacity tree one_each alike node

pub returns-clause-missing : goal.returns-clause-missing
returns-clause-missing c net capacity node tree one_each alike = missing-same net capacity tree one_each alike node
