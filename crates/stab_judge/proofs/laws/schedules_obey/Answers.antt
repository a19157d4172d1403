use Rattle.stab_treecore.specs.TreeReplay.{initial_tree, tree_replay}
use Rattle.stab_report.specs.Reports.{report_of}
use Rattle.stab_judge.proofs.Shown.{all_shown, links_shown, none_ended, root_shown, schedule_is_run}
use Rattle.stab_judge.proofs.laws.schedules_obey.Goals as goal

pub returns-clause-obeys : goal.returns-clause-obeys
returns-clause-obeys c net events is =
    let t = tree_replay (initial_tree net) events in
    let run = schedule_is_run c.reachable_steps.ensures net events is in
    let obey = c.every_replay_obeys_the_sharper_link_law.ensures in
    c.explained_reports_obey.ensures.report net (report_of t) is.tree is.openings_fit
    (all_shown t net.tree.parents run.parents_stay) (root_shown obey net t run is) (links_shown obey net t run is)
    (none_ended obey net t run is)

pub returns-clause-entries : goal.returns-clause-entries
returns-clause-entries c net events is =
    let t = tree_replay (initial_tree net) events in
    all_shown t net.tree.parents (schedule_is_run c.reachable_steps.ensures net events is).parents_stay
