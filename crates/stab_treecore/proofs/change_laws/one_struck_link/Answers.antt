use Rattle.stab_treecore.proofs.Struck.{struck_law}
use Rattle.stab_treecore.proofs.change_laws.one_struck_link.Goals as goal

pub returns : goal.returns
returns c = struck_law c.link_law_from_any_state.ensures
