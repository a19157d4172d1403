use Rattle.std.proofs.Common.{◌≡◌, ◌∙◌, ap, sym, subst}
use Rattle.stab_treecore.specs.Network.{Network, network_of}
use Rattle.stab_treecore.specs.NodeLaws.{most_missing, most_strays, path_garbage}
use Rattle.stab_treecore.specs.TreeLaw.{CompleteLaw}
use Rattle.stab_treecore.specs.TreeReplay.{initial_tree, tree_replay}
use Rattle.stab_treecore.specs.WholeTree.{WholeTree, received}
use Rattle.stab_rounds.specs.TreePlayed.{play_reads}
use Rattle.stab_rounds.specs.TreeRounds.{IsHandedOn}
use Rattle.stab_rounds.proofs.reads.run_reading_rounds.Goals as goal

pub returns-clause-handed_on : goal.returns-clause-handed_on
returns-clause-handed_on c child parent small is_child enough =
    let net : Network = network_of c.args.params.now c.args.tree.now c.args.published.now c.args.starts.now c.args.openings.now in
    let played = play_reads c.args.capacity c.args.tree.now.parents c.args.rounds in
    let reached : c.apply_reading_rounds.new.state ≡ tree_replay (initial_tree net) played =
    c.in_ok-apply_reading_rounds.ensures.replay ∙ ap (λ t. tree_replay t played) c.in_ok-state.ensures.replay in
    subst (λ (t : WholeTree). IsHandedOn t child parent) (sym reached)
    (c.reading_rounds_bring_everything.ensures.handed_on net c.args.capacity c.args.rounds child parent c.in_ok-state.ensures.network small is_child enough)

pub returns-clause-complete : goal.returns-clause-complete
returns-clause-complete c child parent small is_child enough =
    let net : Network = network_of c.args.params.now c.args.tree.now c.args.published.now c.args.starts.now c.args.openings.now in
    let played = play_reads c.args.capacity c.args.tree.now.parents c.args.rounds in
    let reached : c.apply_reading_rounds.new.state ≡ tree_replay (initial_tree net) played =
    c.in_ok-apply_reading_rounds.ensures.replay ∙ ap (λ t. tree_replay t played) c.in_ok-state.ensures.replay in
    subst (λ (t : WholeTree). CompleteLaw (most_strays net child) (most_missing net child) (path_garbage net child) net.published (received t child)) (sym reached)
    (c.reading_rounds_bring_everything.ensures.complete net c.args.capacity c.args.rounds child parent c.in_ok-state.ensures.network small is_child enough)
