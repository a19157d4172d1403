use Rattle.std.proofs.Common.{subst}
use Rattle.stab_tree.specs.Nodes.{Nodes}
use Rattle.rignolda_scenario.specs.NamedSteps.{AreStepsOf}
use Rattle.rignolda_scenario.proofs.NamedMeaning.{scenario_by_name}
use Rattle.rignolda_scenario.proofs.read.read_plain_scenario.Goals as goal

pub returns : goal.returns
returns c =
    let bytes = c.args.bytes.now in
    let j = c.in-Some.job in
    let named = c.in-Some-steps.steps in
    let steps = c.in-Some-2.steps in
    let is_job = rw c.in-Some.is at c.in_ok-job.ensures.job in
    let members = rw c.in-Some.is at c.in_ok-job.ensures.members in
    let means = rw c.in-Some-steps.is at members.2.1 in
    let made = rw c.in-Some-2.is at c.in_ok-steps.ensures in
    let are : AreStepsOf j.tree j.params named steps =
    subst (λ (t : Nodes). AreStepsOf t j.params named steps) c.tree.ensures.tree
    (subst (λ params. AreStepsOf c.tree.result.now params named steps) c.params.ensures.params made) in
    scenario_by_name bytes j members.0 named steps is_job members.1 means are
