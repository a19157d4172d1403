use Rattle.std.proofs.Common.{sym, subst, ◌∙◌}
use Rattle.stab_treecore.specs.Network.{network_of}
use Rattle.stab_treecore.specs.NodeLaws.{TreeLawAtNodes}
use Rattle.stab_treecore.specs.WholeTree.{received}
use Rattle.stab_core.proofs.Setups.{as_many_setups}
use Rattle.stab_treecore.proofs.schedule.run_schedule.Goals as goal

pub returns-clause-network : goal.returns-clause-network
returns-clause-network c =
    let begun = c.in_ok-state.ensures in
    record {
      tree = c.root-tree.ensures.tree.rooted;
      openings_fit = c.requires.fit;
      one_per_link = as_many_setups c.args.params.now c.args.starts.now (begun.params_per_link ∙ sym begun.one_per_link) ∙ begun.one_per_link;
      can_begin = begun.lawful;
    }

pub returns-clause-tree_law : goal.returns-clause-tree_law
returns-clause-tree_law c =
    let net = network_of c.args.params.now c.args.tree.now c.args.published.now c.args.starts.now c.args.openings.now in
    subst (λ t. TreeLawAtNodes net (received t)) (sym c.in_ok-state.ensures.replay)
    (c.every_schedule_obeys_the_tree_law.ensures net c.args.events.now (returns-clause-network c))

pub returns-clause-half_tree_law : goal.returns-clause-half_tree_law
returns-clause-half_tree_law c =
    let net = network_of c.args.params.now c.args.tree.now c.args.published.now c.args.starts.now c.args.openings.now in
    c.half_tree_law_at_every_node.ensures net (received c.in_ok-state.state) (returns-clause-tree_law c)
