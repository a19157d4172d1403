use Rattle.std.proofs.Common.{◌≡◌, Some, subst}
use Rattle.serde_json.specs.Data.{object}
use Rattle.stab_job.specs.Jobs.{job_of_data}
use Rattle.stab_job.specs.ScheduleEntries.{events_of}
use Rattle.stab_job.proofs.Rescheduled.{job_with_schedule}
use Rattle.stab_tree.specs.Nodes.{Nodes}
use Rattle.stab_job.proofs.Kept.{with_kept}
use Rattle.stab_job.proofs.stream_read.with_steps.Goals as goal

pub returns : goal.returns
returns c =
    let j = c.args.job in
    let events = c.in-Some.events in
    let found = rw c.in-Some.is at c.in_ok-events.ensures in
    λ keeps others ms has first.
    let steps = has.2 in
    let made = found keeps steps.0 steps.1 in
    let named : events_of j.tree.names steps.0 ≡ Some made.0 = subst (λ (t : Nodes). events_of t.names steps.0 ≡ Some made.0) c.tree.ensures.tree made.1 in
    with_kept keeps (job_of_data (object ms)) j c.with_schedule.result events made.0
    (job_with_schedule others ms steps.0 made.0 j has.0 has.1 steps.2 made.3 first named) made.2 c.with_schedule.ensures
