use Rattle.std.proofs.Common.{◌∙◌, map, sym}
use Rattle.std.proofs.lemmas.List.{length-map}
use Rattle.stab_treecore.specs.Network.{network_of}
use Rattle.stab_tree.specs.NodeOpenings.{opening_at}
use Rattle.stab_treecore.specs.TreeReplay.{opened}
use Rattle.stab_tree.proofs.Fitting.{openings_fit}
use Rattle.stab_tree.proofs.ForCallers.{length-by_child}
use Rattle.stab_core.proofs.Setups.{as_many_setups}
use Rattle.stab_tree.proofs.ForCallers.{linked_nodes}
use Rattle.stab_treecore.proofs.Replayed.{opened_listed}
use Rattle.stab_treecore.proofs.state.TreeState.new.Goals as goal

pub invariant_of-result : goal.invariant_of-result
invariant_of-result c =
    let parents = c.args.tree.now.parents in
    let net = network_of c.args.params.now c.args.tree.now c.args.published.now c.args.starts.now c.args.openings.now in
    let lists = c.args.openings.now.lists in
    let begun = c.in_ok-check_starts.ensures in
    rw (c.in_ok-lists.ensures, c.in_ok-lists-2.ensures, c.in_ok-links.ensures.links, c.in_ok-from_slice-2.ensures.items, c.parents-2.ensures.value, c.parents.ensures.value) (record {
      linked =
          linked_nodes parents (map opened net.links) 0
          (length-map net.links opened ∙ as_many_setups c.args.params.now c.args.starts.now (begun.params_per_link ∙ sym begun.one_per_link)
          ∙ begun.one_per_link);
      known_parents = c.root-root.ensures.tree.rooted.known_parents;
      root_has_none = c.root-root.ensures.tree.rooted.root_has_none;
      one_root = c.root-root.ensures.tree.rooted.one_root;
      one_opening_each =
          (openings_fit parents c.args.openings.now c.requires.fit).one_per_node ∙ sym (length-by_child parents (map opened net.links));
      one_list_each =
          (openings_fit parents c.args.openings.now c.requires.fit).one_per_node ∙ sym (length-by_child parents (map opened net.links));
      listed = λ node link. opened_listed net (opening_at lists node) node link;
    })
