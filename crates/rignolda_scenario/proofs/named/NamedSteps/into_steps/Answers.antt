use Rattle.std.proofs.Common.{subst}
use Rattle.stab_job.specs.Steps.{AreNodesOf}
use Rattle.stab_job.proofs.Lists.{of_what_is_done}
use Rattle.stab_script.proofs.Meaning.{of_what_is_there}
use Rattle.rignolda_scenario.specs.NamedSteps.{AreStepsOf}
use Rattle.rignolda_scenario.proofs.named.NamedSteps.into_steps.Goals as goal

pub returns : goal.returns
returns c =
    let t = c.args.tree.now in
    let names = c.self.inside.names in
    let are : AreNodesOf t.names names c.in-Some.nodes.items = rw c.in-Some.is at c.in_ok-nodes.ensures in
    of_what_is_done c.steps_over.result
    (λ found its. of_what_is_there found (λ steps are_steps. subst (λ ns. AreStepsOf t c.args.params.now ns steps) c.self.view_is (are_steps names (rw c.as_slice.ensures.value are))) its)
    c.steps_over.ensures
