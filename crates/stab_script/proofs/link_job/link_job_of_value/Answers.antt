-- A value that passes each check means the job.
use Rattle.std.proofs.Common.{arith}
use Rattle.serde_json.specs.View.{view}
use Rattle.stab_json.proofs.ForCallers.{count_of_values}
use Rattle.stab_script.specs.LinkMembers.{members_read}
use Rattle.stab_script.proofs.LinkChecks.{value_passes}
use Rattle.stab_script.proofs.link_job.link_job_of_value.Goals as goal

pub returns-clause-job : goal.returns-clause-job
returns-clause-job c =
    let m = c.in-Some.members in
    value_passes (view c.args.value) (members_read m) c.in_ok-params.params c.in-Some-2.events
    (rw c.in-Some.is at c.in_ok-members.ensures)
    c.in_ok-params.ensures.made.0 c.in_ok-params.ensures.made.1 c.in_ok-params.ensures.made.2
    (rw (count_of_values m.events.items) (omega arith))
    (rw c.in-Some-2.is at c.in_ok-events.ensures)
