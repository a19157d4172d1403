use Rattle.stab_treecore.proofs.EdgesSince.{law_of_edges_since, sharper_law_of_edges_since}
use Rattle.stab_treecore.proofs.change_laws.tree_law_of_edges_since.Goals as goal

pub returns : goal.returns
returns c = record {
  tree_law = law_of_edges_since c.link_law_from_any_state.ensures;
  sharper = sharper_law_of_edges_since c.sharper_link_law_from_any_state.ensures;
}
