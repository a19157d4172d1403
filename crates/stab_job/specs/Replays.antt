-- The replay of a job's schedule: that there is one, and why there is none.
-- Example: A job whose first start has two frames under the capacity 1 has none, for
-- `TooManyFrames`. One whose schedule has an event on the root has none, for `NoSuchLink`.
-- Source: this project's own.
use Rattle.std.specs.Prelude.{All}
use Rattle.stab_treecore.specs.declared.fault.TreeStartFault.{TreeStartFault}
use Rattle.stab_treecore.specs.Network.{IsNetwork}
use Rattle.stab_treecore.specs.Refusals.{IsScheduleReason, NamesLink}
use Rattle.stab_job.specs.JobValues.{JobValue, network}

-- why the schedule of a job is refused
abbrev pub IsReplayReason : JobValue → TreeStartFault → Type 0
IsReplayReason j fault = IsScheduleReason j.params j.starts (network j) j.schedule fault

-- all links of the job begin, and each step of its schedule is on a link
pub record IsReplayed (j : JobValue) : Type 0 where
  pub begins : IsNetwork (network j)
  pub named : All (NamesLink j.tree.parents) j.schedule
