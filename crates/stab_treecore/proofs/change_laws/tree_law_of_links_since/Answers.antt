use Rattle.stab_treecore.proofs.EdgesSince.{law_of_links_since, sharper_law_of_links_since}
use Rattle.stab_treecore.proofs.change_laws.tree_law_of_links_since.Goals as goal

pub returns : goal.returns
returns c = record { tree_law = law_of_links_since; sharper = sharper_law_of_links_since }
