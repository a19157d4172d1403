use Rattle.std.proofs.Common.{◌≡◌, ◌<◌, ◌++◌, ◌∙◌, ap, sym, subst, take, drop, length}
use Rattle.stab_treecore.specs.Changes.{Fit, changes_replay}
use Rattle.stab_treecore.specs.Hits.{Spare}
use Rattle.stab_treecore.specs.Moment.{LawSince}
use Rattle.stab_treecore.specs.Since.{gained, moment}
use Rattle.stab_treecore.proofs.Contained.{changes-append}
use Rattle.stab_treecore.proofs.Running.{fit_front, parents_stay}
use Rattle.stab_job.specs.JobValues.{network}
use Rattle.stab_treecore.specs.TreeReplay.{initial_tree}
use Rattle.rignolda_scenario.specs.LastFault.{last_fault}
use Rattle.rignolda_scenario.specs.Played.{changes_of}
use Rattle.rignolda_scenario.proofs.Spared.{changes_of-parts, spare_since}
use Rattle.rignolda_scenario.proofs.laws.scenarios_obey.Goals as goal

pub returns : goal.returns
returns c j steps node net is_node fit =
    let ps = j.tree.parents in
    let t = initial_tree (network j) in
    let k = last_fault ps node steps in
    let before = changes_of ps j.params (take k steps) in
    let after = changes_of ps j.params (drop k steps) in
    let parts : changes_of ps j.params steps ≡ before ++ after = changes_of-parts ps j.params k steps in
    let end : changes_replay t (changes_of ps j.params steps) ≡ changes_replay (changes_replay t before) after =
    ap (λ es. changes_replay t es) parts ∙ changes-append t before after in
    let same = parents_stay t before in
    subst (λ u. LawSince (moment (changes_replay t before)) (gained (changes_replay t before) u) node) (sym end)
    (c.every_schedule_with_faults_obeys_the_tree_law.ensures.tree_law (network j) before after node net
    (fit_front t before after (subst (λ es. Fit t es) parts fit))
    (subst (λ ps. node < length ps) (sym same) is_node)
    (subst (λ ps. Spare ps node after) (sym same) (spare_since j.tree net.tree j.params node is_node steps)))
