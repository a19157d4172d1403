-- What a task refuses bytes for. Bytes alone decide a refusal: they have one at most, whatever
-- memory, the reader, the threads and the gate of a run do.
-- Example: Bytes that are no JSON are refused by each task with the fault of its reader. A link job
-- of capacity 1 whose start has two frames and two acknowledgements is refused for its frames, and
-- not for its acknowledgements. A job with a link of capacity 2 is refused by a run over words with
-- `CapacityNotOne`, whatever its starts are. More bytes than a file may have are refused as too
-- long, also where they are no JSON.
-- Source: this project's own.
use Rattle.std.specs.Prelude.{◌≢◌, ℕ, ◌≤◌, List, length}
use Rattle.stab_core.specs.declared.start.StartFault.TheVariants.{Memory as no_memory_at_start}
use Rattle.stab_job.specs.declared.fault.JobFault.TheVariants.{Memory as no_memory}
use Rattle.stab_run.specs.declared.run_fault.RunFault.{RunFault}
use Rattle.stab_run.specs.declared.run_fault.RunFault.TheVariants as run
use Rattle.stab_script.specs.declared.link_job.LinkJobFault.TheVariants.{Memory as out_of_memory}
use Rattle.stab_treecore.specs.declared.fault.TreeStartFault.{TreeStartFault}
use Rattle.stab_treecore.specs.declared.fault.TreeStartFault.TheVariants as tree
use Rattle.stab_treecore.specs.declared.fault.TreeStepFault.TheVariants.{}
use Rattle.stab_treecore.specs.declared.fault.TreeStepFault.TheVariants.{}
use Rattle.stab_treecore.specs.declared.fault.TreeStepFault.TheVariants.{Memory as no_memory_at_step}
use Rattle.stab_task.specs.Answers.{IsFault}
use Rattle.stab_task.specs.Loading.{most_bytes}
use Rattle.stab_task.specs.declared.command.Task.{Task}
use Rattle.stab_task.specs.declared.fault.CliFault.{CliFault}
use Rattle.stab_task.specs.declared.fault.CliFault.TheVariants.{TooLong, LinkJob, Job, Start, Tree}
use Rattle.stab_task.specs.declared.fault.CliFault.TheVariants.{Run}

-- a start or an event of the schedule is refused, and not memory; a job that is read has as many
-- starts as links
abbrev pub IsOfSchedule : TreeStartFault → Type 0
IsOfSchedule tree.StartCount = ⊥
IsOfSchedule (tree.Start fault) = fault ≢ no_memory_at_start
IsOfSchedule (tree.Step fault) = fault ≢ no_memory_at_step

-- a capacity or a start is refused, and not a worker, a link that is settled or memory
abbrev pub IsOfLinks : RunFault → Type 0
IsOfLinks run.CapacityNotOne = Unit {0}
IsOfLinks (run.Start child fault) = Unit {0}
IsOfLinks fault = ⊥

-- the fault is one that bytes alone decide
abbrev pub IsOfBytes : CliFault → Type 0
IsOfBytes TooLong = Unit {0}
IsOfBytes (LinkJob fault) = fault ≢ out_of_memory
IsOfBytes (Job fault) = fault ≢ no_memory
IsOfBytes (Start fault) = fault ≢ no_memory_at_start
IsOfBytes (Tree fault) = IsOfSchedule fault
IsOfBytes (Run fault) = IsOfLinks fault
IsOfBytes fault = ⊥

-- bytes are looked into only where they are not too many
abbrev pub AreLookedInto : List ℕ → CliFault → Type 0
AreLookedInto input TooLong = Unit {0}
AreLookedInto input fault = length input ≤ most_bytes

-- a task refuses these bytes with this fault, which they alone decide
pub record IsRefused (task : Task) (input : List ℕ) (fault : CliFault) : Type 0 where
  pub of_bytes : IsOfBytes fault
  pub looked_into : AreLookedInto input fault
  pub is_fault : IsFault task input fault
