use Rattle.stab_treecore.proofs.Contained.{contained}
use Rattle.stab_treecore.proofs.change_laws.clean_links_contain_faults.Goals as goal

pub returns : goal.returns
returns c = contained c.links_pass_on_exactly.ensures
