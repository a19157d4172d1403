use Rattle.stab_treecore.proofs.Promise.{keeps_its_promise}
use Rattle.stab_treecore.proofs.change_laws.nodes_that_no_fault_hits_keep_their_promise.Goals as goal

pub returns : goal.returns
returns c = λ net changes node is is_node spare. keeps_its_promise c.link_law_from_any_state.ensures net changes node is is_node spare
