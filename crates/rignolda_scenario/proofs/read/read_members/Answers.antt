use Rattle.serde_json.specs.View.{view}
use Rattle.rignolda_scenario.proofs.ForCallers.{steps_among}
use Rattle.rignolda_scenario.proofs.read.read_members.Goals as goal

pub returns-clause-steps : goal.returns-clause-steps
returns-clause-steps c =
    let its = c.in_ok-read.ensures.members in
    steps_among c.in_ok-read.read.0 c.args.bytes.now its.0 (view c.in_ok-read.read.1) its.1 its.2
