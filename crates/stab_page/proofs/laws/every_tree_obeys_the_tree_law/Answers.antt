use Rattle.std.proofs.Common.{ap, ◌∙◌, sym}
use Rattle.stab_treecore.specs.TreeReplay.{initial_tree, tree_replay}
use Rattle.stab_treecore.specs.WholeTree.{received}
use Rattle.stab_page.specs.TracedTree.{list_at, page_network, traced_initial_tree, traced_tree_replay}
use Rattle.stab_page.proofs.Bounds.{same_held_bound, same_missing_bound, same_strays_bound}
use Rattle.stab_page.proofs.Schedule.{law_of_lists, same_list, same_opening, same_replay}
use Rattle.stab_page.proofs.laws.every_tree_obeys_the_tree_law.Goals as goal

pub returns-clause-states : goal.returns-clause-states
returns-clause-states c =
    λ tree openings links published events.
    same_replay (traced_initial_tree tree.parents openings links published) events
    ∙ ap (λ t. tree_replay t events) (same_opening tree openings links published)

pub returns-clause-law : goal.returns-clause-law
returns-clause-law c =
    λ tree openings links published events is.
    let net = page_network tree openings links published in
    let t = traced_tree_replay (traced_initial_tree tree.parents openings links published) events in
    law_of_lists net (list_at t) (received (tree_replay (initial_tree net) events))
    (λ node. ap (λ now. received now node) (sym (returns-clause-states c tree openings links published events)) ∙ same_list t node)
    (c.every_schedule_obeys_the_tree_law.ensures net events is)

pub returns-clause-strays_bound : goal.returns-clause-strays_bound
returns-clause-strays_bound c = same_strays_bound

pub returns-clause-held_bound : goal.returns-clause-held_bound
returns-clause-held_bound c = same_held_bound

pub returns-clause-missing_bound : goal.returns-clause-missing_bound
returns-clause-missing_bound c = same_missing_bound
