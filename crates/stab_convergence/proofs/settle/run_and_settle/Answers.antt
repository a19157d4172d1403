use Rattle.std.proofs.Common.{◌≡◌, ◌∙◌, ap, sym, subst}
use Rattle.stab_treecore.specs.Network.{network_of}
use Rattle.stab_treecore.specs.TreeReplay.{initial_tree, tree_replay}
use Rattle.stab_treecore.specs.WholeTree.{WholeTree}
use Rattle.stab_treecore.specs.Changes.{Fit, changes_replay}
use Rattle.stab_treecore.proofs.Contained.{changes-append}
use Rattle.stab_treecore.proofs.Running.{all_fit}
use Rattle.stab_rounds.specs.TreePlayed.{play_reads}
use Rattle.stab_convergence.specs.Converged.{HasConverged}
use Rattle.stab_convergence.proofs.settle.run_and_settle.Goals as goal

pub returns-clause-converged : goal.returns-clause-converged
returns-clause-converged c before after node parts is_node spare is_open small enough =
    let net = network_of c.args.params.now c.args.tree.now c.args.published.now c.args.starts.now c.args.openings.now in
    let t = initial_tree net in
    let s = changes_replay t before in
    let m = changes_replay s after in
    let begun = c.in_ok-state.ensures in
    let changed : c.in_ok-state.state ≡ m = begun.replay ∙ (ap (λ es. changes_replay t es) parts ∙ changes-append t before after) in
    let same : c.args.tree.now.parents ≡ m.parents = sym begun.same_tree ∙ ap (λ (u : WholeTree). u.parents) changed in
    let reached : c.apply_reading_rounds.new.state ≡ tree_replay m (play_reads c.args.capacity m.parents c.args.rounds) =
    c.in_ok-apply_reading_rounds.ensures.replay
    ∙ (ap (λ u. tree_replay u (play_reads c.args.capacity c.args.tree.now.parents c.args.rounds)) changed
    ∙ ap (λ ps. tree_replay m (play_reads c.args.capacity ps c.args.rounds)) same) in
    let fit = subst (λ es. Fit t es) parts (all_fit t c.args.changes.now begun.made) in
    subst (λ (u : WholeTree). HasConverged s u node) (sym reached)
    (c.every_schedule_converges.ensures net before after c.args.capacity c.args.rounds node begun.network fit is_node spare is_open small enough)
