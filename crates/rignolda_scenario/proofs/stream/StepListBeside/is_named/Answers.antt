use Rattle.rignolda_scenario.proofs.BesideJob.{named_steps}
use Rattle.rignolda_scenario.proofs.stream.StepListBeside.is_named.Goals as goal

pub returns : goal.returns
returns c = named_steps c.args.name.now c.eq.result c.eq.ensures
