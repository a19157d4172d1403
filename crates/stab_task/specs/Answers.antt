-- What the program writes for what it reads, and why it may not.
-- Example: For the bytes of the worst start `IsLinkAnswer` asks that `link_job` of them is a job,
-- that its start is lawful, and that the text is that of the replay. That is the eight lines of the
-- README. For a job of a tree `IsRunAnswer` asks that the text is that of some report of which all
-- holds that a run promises of its report (`IsReport`), with links of the kinds that the flag
-- names; with `--words` that includes that the capacity of each link is 1. By `IsRunReason` only a
-- link behind a lock may be refused for settling: so for the chain of the example
-- a_wider_second_link with `--mixed` the link into b may be, and that into a may not.
-- Source: this project's own.
use Rattle.std.specs.Prelude.{◌≡◌, ◌≢◌, ◌⊎◌, ℕ, ◌<◌, Bool, List, [], ◌++◌, length, All}
use Rattle.std.specs.Prelude.{if◌then◌else◌, Option, Ok, Err}
use Rattle.stab_core.specs.Replay.{initial, replay, IsLawful}
use Rattle.stab_core.specs.Trace.{traced_initial, traced_replay}
use Rattle.stab_core.specs.Link.{IsReason}
use Rattle.stab_core.specs.Texts.{link_text, origins_text}
use Rattle.stab_script.specs.declared.link_job.LinkJob.{LinkJob as OneLink}
use Rattle.stab_script.specs.declared.link_job.LinkJobFault.{LinkJobFault}
use Rattle.stab_script.specs.declared.link_job.LinkJobFault.TheVariants.{Memory as out_of_memory}
use Rattle.stab_core.specs.declared.start.StartFault.{StartFault}
use Rattle.stab_treecore.specs.declared.fault.TreeStartFault.{TreeStartFault}
use Rattle.stab_job.specs.declared.fault.JobFault.{JobFault}
use Rattle.stab_job.specs.declared.fault.JobFault.TheVariants.{Memory as no_memory}
use Rattle.stab_job.specs.JobValues.{JobValue, network}
use Rattle.stab_job.specs.Jobs.{job as whole_job}
use Rattle.stab_job.specs.Replays.{IsReplayReason}
use Rattle.stab_report.specs.Texts.{report_text}
use Rattle.stab_run.specs.Reports.{Reported, as_report}
use Rattle.stab_run.specs.RunFaults.{IsRunReason}
use Rattle.stab_run.specs.Runs.{IsReport}
use Rattle.stab_run.specs.declared.links.Links.{Links}
use Rattle.stab_run.specs.declared.run_fault.RunFault.{RunFault}
use Rattle.stab_treecore.specs.Network.{IsNetwork}
use Rattle.stab_treecore.specs.Refusals.{NamesLink}
use Rattle.stab_treecore.specs.Texts.{schedule_text}
use Rattle.stab_treecore.specs.TreeReplay.{initial_tree, tree_replay}
use Rattle.stab_script.specs.LinkJobs.{link_job}
use Rattle.stab_task.specs.declared.command.Task.{Task}
use Rattle.stab_task.specs.declared.command.Task.TheVariants.{Link, Tree as WholeTreeTask}
use Rattle.stab_task.specs.declared.command.Task.TheVariants.{Run as RunTask}
use Rattle.stab_task.specs.declared.fault.CliFault.{CliFault}
use Rattle.stab_task.specs.declared.fault.CliFault.TheVariants.{CommandLine, Open, Read}
use Rattle.stab_task.specs.declared.fault.CliFault.TheVariants.{TooLong, LinkJob, Job, Start}
use Rattle.stab_task.specs.declared.fault.CliFault.TheVariants.{Tree, Run, Write, Memory}
use Rattle.stab_task.specs.Loading.{most_bytes, IsUnloaded, IsWhole}

-- the text of a link job: the link after its replay, and with a trace the origins of what it
-- delivered
abbrev pub link_answer : Bool → OneLink → List ℕ
link_answer trace job = link_text (replay job.params (initial job.start) job.events)
    ++ (if trace
    then origins_text (traced_replay job.params (traced_initial job.start) job.events).origins
    else [])

-- these bytes are a link job with a lawful start, and this is its text
pub record IsLinkAnswer (trace : Bool) (input text : List ℕ) : Type 0 where
  pub job : OneLink
  pub read : link_job input ≡ Ok job
  pub lawful : IsLawful job.params job.start
  pub the_text : text ≡ link_answer trace job

-- the text of a whole tree: its nodes after the replay of its schedule
abbrev pub tree_answer : JobValue → List ℕ
tree_answer job = schedule_text job.tree
    (tree_replay (initial_tree (network job)) job.schedule)

-- these bytes are a job, whose starts are lawful and whose schedule names links alone, and this is
-- its text
pub record IsTreeAnswer (input text : List ℕ) : Type 0 where
  pub job : JobValue
  pub read : whole_job input ≡ Ok job
  pub network : IsNetwork (network job)
  pub named : All (NamesLink job.tree.parents) job.schedule
  pub the_text : text ≡ tree_answer job

-- this is the text of some report of a run of this job over these links
pub record IsRunText (links : Links) (job : JobValue) (text : List ℕ) : Type 0 where
  pub report : Reported
  pub holds : IsReport links job report
  pub the_text : text ≡ report_text job.tree (as_report report)

-- these bytes are a job, and this is the text of some report of a run of it over these links
pub record IsRunAnswer (links : Links) (input text : List ℕ) : Type 0 where
  pub job : JobValue
  pub read : whole_job input ≡ Ok job
  pub run : IsRunText links job text

-- the text of a task for these bytes
abbrev pub IsAnswer : Task → List ℕ → List ℕ → Type 0
IsAnswer (Link trace) input text = IsLinkAnswer trace input text
IsAnswer WholeTreeTask input text = IsTreeAnswer input text
IsAnswer (RunTask links) input text = IsRunAnswer links input text

-- a link task has no answer where the bytes are no link job; out of memory comes with any bytes
abbrev pub IsLinkJobFault : Task → List ℕ → LinkJobFault → Type 0
IsLinkJobFault (Link trace) input refusal = refusal ≢ out_of_memory → link_job input ≡ Err refusal
IsLinkJobFault WholeTreeTask input refusal = ⊥
IsLinkJobFault (RunTask links) input refusal = ⊥

-- a link task has no answer where the bytes are a link job whose start is refused
abbrev pub IsStartFault : Task → List ℕ → StartFault → Type 0
IsStartFault (Link trace) input refusal =
    (job : OneLink) × (link_job input ≡ Ok job) × IsReason job.params job.start refusal
IsStartFault WholeTreeTask input refusal = ⊥
IsStartFault (RunTask links) input refusal = ⊥

-- the other tasks have no answer where the bytes are no job; out of memory comes with any bytes
abbrev pub IsJobFault : Task → List ℕ → JobFault → Type 0
IsJobFault (Link trace) input refusal = ⊥
IsJobFault WholeTreeTask input refusal = refusal ≢ no_memory → whole_job input ≡ Err refusal
IsJobFault (RunTask links) input refusal = refusal ≢ no_memory → whole_job input ≡ Err refusal

-- a tree task has no answer where the bytes are a job of which a start or an event is refused
abbrev pub IsTreeFault : Task → List ℕ → TreeStartFault → Type 0
IsTreeFault (Link trace) input refusal = ⊥
IsTreeFault WholeTreeTask input refusal = (job : JobValue) × (whole_job input ≡ Ok job)
    × IsReplayReason job refusal
IsTreeFault (RunTask links) input refusal = ⊥

-- why a run of a job gives no report under the gate `Free`, which refuses no turn
abbrev pub IsFreeRunReason : Links → JobValue → RunFault → Type 0
IsFreeRunReason links job fault =
    IsRunReason links job (λ node turn. Unit {0}) (λ node turn. ⊥) (λ node. Unit {0}) fault

-- a run has no answer where the bytes are a job of which the run is refused
abbrev pub IsRunFault : Task → List ℕ → RunFault → Type 0
IsRunFault (Link trace) input refusal = ⊥
IsRunFault WholeTreeTask input refusal = ⊥
IsRunFault (RunTask links) input refusal =
    (job : JobValue) × (whole_job input ≡ Ok job) × IsFreeRunReason links job refusal

-- why a task has no answer for these bytes, or why its text was not written; a reader may fail, and
-- memory may be refused, at any bytes
abbrev pub IsFault : Task → List ℕ → CliFault → Type 0
IsFault task input CommandLine = ⊥
IsFault task input Open = ⊥
IsFault task input Read = Unit {0}
IsFault task input TooLong = most_bytes < length input
IsFault task input (LinkJob refusal) = IsLinkJobFault task input refusal
IsFault task input (Job refusal) = IsJobFault task input refusal
IsFault task input (Start refusal) = IsStartFault task input refusal
IsFault task input (Tree refusal) = IsTreeFault task input refusal
IsFault task input (Run refusal) = IsRunFault task input refusal
IsFault task input Write = (text : List ℕ) × IsAnswer task input text
IsFault task input Memory = Unit {0}

-- this is the text of a task for all the bytes that a reader had, where it tells them; they are not
-- too many
abbrev pub IsTaskAnswer : Task → Option (List ℕ) → List ℕ → Type 0
IsTaskAnswer task had text = (input : List ℕ) × IsWhole had input × IsAnswer task input text

-- why a task fails for a reader that had these bytes, where it tells them: they cannot be loaded,
-- or all of them are, and this is why they have no answer, or why it was not written
abbrev pub IsTaskFault : Task → Option (List ℕ) → CliFault → Type 0
IsTaskFault task had fault =
    IsUnloaded had fault ⊎ ((input : List ℕ) × IsWhole had input × IsFault task input fault)
