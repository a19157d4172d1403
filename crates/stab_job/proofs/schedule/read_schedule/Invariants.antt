use Rattle.std.proofs.Common.{◌≡◌, drop}
use Rattle.serde_json.specs.View.{items_view}
use Rattle.stab_json.specs.Values.{entries}
use Rattle.stab_job.specs.Jobs.{schedule}
use Rattle.stab_job.specs.ScheduleEntries.{named_act}
use Rattle.stab_job.proofs.Schedules.{schedule_after}
use Rattle.stab_job.proofs.schedule.read_schedule.Given as goal

-- what was read and then the rest give the whole schedule
abbrev pub invariant-loop-value : goal.invariant-loop-value
invariant-loop-value l =
    schedule l.tree.names (items_view l.values)
    ≡ schedule_after l.tree.names l.all_known l.events (entries named_act (items_view (drop l.value-index l.values)))
