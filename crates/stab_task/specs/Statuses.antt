-- The status that the program ends with, by its fault.
-- Source: this project's own.
use Rattle.std.specs.Prelude.{ℕ}
use Rattle.stab_script.specs.declared.link_job.LinkJobFault.{LinkJobFault}
use Rattle.stab_script.specs.declared.link_job.LinkJobFault.TheVariants as job
use Rattle.stab_acts.specs.declared.fault.ScriptFault.{ScriptFault}
use Rattle.stab_acts.specs.declared.fault.ScriptFault.TheVariants as script
use Rattle.stab_tree.specs.declared.fault.TreeFault.{TreeFault}
use Rattle.stab_tree.specs.declared.fault.TreeFault.TheVariants as tree
use Rattle.stab_job.specs.declared.fault.JobFault.{JobFault}
use Rattle.stab_job.specs.declared.fault.JobFault.TheVariants as whole
use Rattle.stab_task.specs.declared.fault.CliFault.{CliFault}
use Rattle.stab_task.specs.declared.fault.CliFault.TheVariants.{CommandLine, Open, Read}
use Rattle.stab_task.specs.declared.fault.CliFault.TheVariants.{TooLong, LinkJob, Job, Start}
use Rattle.stab_task.specs.declared.fault.CliFault.TheVariants.{Tree, Run, Write, Memory}

-- a link job that is refused, and one for which memory was refused
abbrev pub link_job_status : LinkJobFault → ℕ
link_job_status job.Json = 1
link_job_status job.Shape = 1
link_job_status (job.Params refusal) = 1
link_job_status job.TooManyEvents = 1
link_job_status job.Event = 1
link_job_status job.Memory = 3

-- a tree that is refused, and one for which memory was refused
abbrev pub tree_status : TreeFault → ℕ
tree_status tree.Shape = 1
tree_status tree.TooManyNodes = 1
tree_status tree.BadName = 1
tree_status tree.SameName = 1
tree_status tree.UnknownParent = 1
tree_status tree.NoRoot = 1
tree_status tree.TwoRoots = 1
tree_status tree.Cycle = 1
tree_status tree.Memory = 3

-- a script that is refused, and one for which memory was refused
abbrev pub script_status : ScriptFault → ℕ
script_status script.TooLong = 1
script_status script.RateOutOfRange = 1
script_status script.Memory = 3

-- a job that is refused, and one for which memory was refused
abbrev pub job_status : JobFault → ℕ
job_status whole.Json = 1
job_status whole.Version = 1
job_status whole.Shape = 1
job_status (whole.Params refusal) = 1
job_status (whole.Tree refusal) = tree_status refusal
job_status whole.TooManyItems = 1
job_status whole.TooManyEvents = 1
job_status whole.StartCount = 1
job_status whole.ScriptCount = 1
job_status (whole.Script refusal) = script_status refusal
job_status whole.TurnsOutOfRange = 1
job_status whole.Event = 1
job_status whole.UnknownNode = 1
job_status whole.LinkCount = 1
job_status (whole.LinkParams child refusal) = 1
job_status (whole.Opening refusal) = 1
job_status whole.Memory = 3

-- 1 for a file or a job, 2 for the command line, 3 for a start, a step, a run, a write or memory
abbrev pub status_of : CliFault → ℕ
status_of CommandLine = 2
status_of Open = 1
status_of Read = 1
status_of TooLong = 1
status_of (LinkJob refusal) = link_job_status refusal
status_of (Job refusal) = job_status refusal
status_of (Start refusal) = 3
status_of (Tree refusal) = 3
status_of (Run refusal) = 3
status_of Write = 3
status_of Memory = 3
