use Rattle.std.proofs.Common.{◌∙◌, ap}
use Rattle.stab_job.specs.JobValues.{network}
use Rattle.stab_treecore.specs.Since.{capacity_at}
use Rattle.stab_treecore.specs.TreeReplay.{initial_tree}
use Rattle.stab_treecore.specs.WholeTree.{WholeTree}
use Rattle.stab_treecore.proofs.Running.{parents_stay}
use Rattle.rignolda_scenario.specs.Played.{changes_of}
use Rattle.rignolda_scenario.proofs.Counting.{capacities_of}
use Rattle.rignolda_scenario.proofs.play.state_after.Goals as goal

pub returns-clause-same_tree : goal.returns-clause-same_tree
returns-clause-same_tree c =
    let j = c.args.job.now in
    ap (λ (t : WholeTree). t.parents) c.in_ok-end.ensures.after
    ∙ parents_stay (initial_tree (network j)) (changes_of j.tree.parents j.params c.args.steps.now)

pub returns-clause-same_capacities : goal.returns-clause-same_capacities
returns-clause-same_capacities c w =
    let j = c.args.job.now in
    ap (λ (t : WholeTree). capacity_at t w) c.in_ok-end.ensures.after
    ∙ capacities_of (network j) (changes_of j.tree.parents j.params c.args.steps.now) w
