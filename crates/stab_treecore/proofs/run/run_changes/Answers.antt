use Rattle.std.proofs.Common.{◌≡◌, ◌∙◌, ap, sym, subst}
use Rattle.stab_treecore.specs.Network.{network_of}
use Rattle.stab_treecore.specs.TreeReplay.{initial_tree}
use Rattle.stab_treecore.specs.Changes.{Fit, changes_replay}
use Rattle.stab_treecore.specs.Moment.{LawSince, SharperLawSince}
use Rattle.stab_treecore.specs.Since.{gained, moment}
use Rattle.stab_treecore.proofs.Contained.{changes-append}
use Rattle.stab_treecore.proofs.Running.{all_fit, fit_front}
use Rattle.stab_treecore.proofs.run.run_changes.Goals as goal

pub returns-clause-tree_law : goal.returns-clause-tree_law
returns-clause-tree_law c =
    let net = network_of c.args.params.now c.args.tree.now c.args.published.now c.args.starts.now c.args.openings.now in
    let t = initial_tree net in
    λ before after node parts is_node spare.
    let fit : Fit t before = fit_front t before after (subst (λ es. Fit t es) parts (all_fit t c.args.changes.now c.in_ok-state.ensures.made)) in
    let end : c.in_ok-state.state ≡ changes_replay (changes_replay t before) after =
    c.in_ok-state.ensures.replay ∙ (ap (λ es. changes_replay t es) parts ∙ changes-append t before after) in
    subst (λ u. LawSince (moment (changes_replay t before)) (gained (changes_replay t before) u) node) (sym end)
    (c.every_schedule_with_faults_obeys_the_tree_law.ensures.tree_law net before after node c.in_ok-state.ensures.network fit is_node spare)

pub returns-clause-sharper_tree_law : goal.returns-clause-sharper_tree_law
returns-clause-sharper_tree_law c =
    let net = network_of c.args.params.now c.args.tree.now c.args.published.now c.args.starts.now c.args.openings.now in
    let t = initial_tree net in
    λ before after node parts is_node spare.
    let fit : Fit t before = fit_front t before after (subst (λ es. Fit t es) parts (all_fit t c.args.changes.now c.in_ok-state.ensures.made)) in
    let end : c.in_ok-state.state ≡ changes_replay (changes_replay t before) after =
    c.in_ok-state.ensures.replay ∙ (ap (λ es. changes_replay t es) parts ∙ changes-append t before after) in
    subst (λ u. SharperLawSince (moment (changes_replay t before)) (gained (changes_replay t before) u) node) (sym end)
    (c.every_schedule_with_faults_obeys_the_tree_law.ensures.sharper_tree_law net before after node c.in_ok-state.ensures.network fit is_node spare)
