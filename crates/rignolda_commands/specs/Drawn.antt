-- What is drawn of some bytes: the run of the job that they are, as text or as a picture; and why
-- there is none. A job of a tree that has a member `steps` is drawn as a scenario.
-- Example: The bytes of the worst start of capacity 1 are a link job with a lawful start, and the
-- run of this job is drawn. For bytes that are not JSON there is none, and the fault is the one of
-- `stab link`. The bytes of the example two_links_under_one_schedule have a member `tree`, so the
-- run is that of their schedule. With a member `steps` beside it, it is that of these steps; and
-- where `steps` is no list, there is none, and the fault is the one of `rignolda scenario`.
-- Source: this project's own.
use Rattle.std.specs.Prelude.{◌≡◌, ℕ, Bool, true, false, List, Option, Some, None, Ok, All, codes}
use Rattle.std.specs.Prelude.{if◌then◌else◌, is_some, length, string_bytes, ◌≤◌}
use Rattle.std.specs.Io.KnownBytes.{Appends}
use Rattle.serde_json.specs.Data.{Data}
use Rattle.serde_json.specs.Find.{get}
use Rattle.stab_core.specs.Replay.{IsLawful}
use Rattle.rignolda_explain.specs.Kinds.{chosen}
use Rattle.rignolda_findings.specs.declared.refusal.Kind.{Kind}
use Rattle.rignolda_findings.specs.declared.refusal.Kind.TheVariants as kind
use Rattle.stab_job.specs.JobValues.{JobValue, network}
use Rattle.stab_job.specs.Jobs.{job as whole_job}
use Rattle.stab_job.specs.Replays.{IsReplayed as IsReplayedJob}
use Rattle.stab_json.specs.Values.{value_of}
use Rattle.rignolda_scenario.specs.Played.{changes_of, most_changes}
use Rattle.rignolda_scenario.specs.Scenarios.{scenario}
use Rattle.rignolda_scenario.specs.declared.read.Scenario.{Scenario}
use Rattle.stab_script.specs.declared.link_job.LinkJob.{LinkJob}
use Rattle.stab_script.specs.LinkJobs.{link_job}
use Rattle.rignolda_commands.specs.Unanswered.{IsUnanswered}
use Rattle.stab_task.specs.declared.command.Task.{Task}
use Rattle.stab_task.specs.declared.command.Task.TheVariants.{Link, Tree}
use Rattle.stab_task.specs.declared.fault.CliFault.{CliFault}
use Rattle.stab_treecore.specs.Network.{IsNetwork}
use Rattle.stab_treecore.specs.Refusals.{NamesLink}
use Rattle.rignolda_commands.specs.Told.{IsUntold}
use Rattle.rignolda_commands.specs.declared.run.Drawing.{Drawing}
use Rattle.rignolda_commands.specs.declared.run.Drawing.TheVariants as drawing
use Rattle.rignolda_commands.specs.declared.fault.CommandFault.{CommandFault}
use Rattle.rignolda_commands.specs.declared.fault.CommandFault.TheVariants as its

-- these bytes are a link job with a lawful start, and its run is drawn, unless it is drawn as a
-- picture
pub record IsDrawnLink (is_picture : Bool) (input : List ℕ) (drawn : Drawing) : Type 0 where
  pub job : LinkJob
  pub read : link_job input ≡ Ok job
  pub lawful : IsLawful job.params job.start
  pub its_run : is_picture ≡ false → drawn ≡ drawing.Link job

-- these bytes are a job, whose starts are lawful and whose schedule names links alone, and its run
-- is drawn, unless it is drawn as a picture
pub record IsDrawnTree (is_picture : Bool) (input : List ℕ) (drawn : Drawing) : Type 0 where
  pub job : JobValue
  pub read : whole_job input ≡ Ok job
  pub begins : IsNetwork (network job)
  pub named : All (NamesLink job.tree.parents) job.schedule
  pub its_run : is_picture ≡ false → drawn ≡ drawing.Schedule job

-- the run of bytes of this kind
abbrev pub IsDrawnAs : Kind → Bool → List ℕ → Drawing → Type 0
IsDrawnAs kind.LinkJob is_picture input drawn = IsDrawnLink is_picture input drawn
IsDrawnAs kind.Job is_picture input drawn = IsDrawnTree is_picture input drawn

-- the task of `stab` that refuses bytes of this kind as they are refused here
abbrev pub task_of : Kind → Task
task_of kind.LinkJob = Link false
task_of kind.Job = Tree

-- the run of these bytes, whose kind is seen by them, whether or not they have steps
abbrev pub IsDrawnJob : Bool → List ℕ → Drawing → Type 0
IsDrawnJob is_picture input drawn = IsDrawnAs (chosen None (value_of input)) is_picture input drawn

-- why these bytes have no such run: what keeps `stab` from its answer
abbrev pub IsUndrawnJob : List ℕ → CliFault → Type 0
IsUndrawnJob input fault = IsUnanswered (task_of (chosen None (value_of input))) input fault

-- these bytes are a scenario, whose steps are not too many, unless it is drawn as a picture
pub record IsDrawnScenario (is_picture : Bool) (input : List ℕ) : Type 0 where
  pub its_scenario : Scenario
  pub read : scenario input ≡ Ok its_scenario
  pub few : is_picture ≡ false → length (changes_of its_scenario.job.tree.parents
      its_scenario.job.params its_scenario.steps) ≤ most_changes

-- a value is an object with the members `tree` and `steps`
abbrev pub has_steps : Option Data → Bool
has_steps None = false
has_steps (Some d) =
    if is_some (get (codes "tree") d) then is_some (get (codes "steps") d) else false

-- the run of bytes that have steps, or of others
abbrev pub IsDrawnBy : Bool → Bool → List ℕ → Drawing → Type 0
IsDrawnBy true is_picture input drawn = IsDrawnScenario is_picture input
IsDrawnBy false is_picture input drawn = IsDrawnJob is_picture input drawn

-- why such bytes have no run
abbrev pub IsUndrawnBy : Bool → List ℕ → CommandFault → Type 0
IsUndrawnBy true input its_fault = IsUntold input its_fault
IsUndrawnBy false input its_fault =
    (refusal : CliFault) × (its_fault ≡ its.Job refusal) × IsUndrawnJob input refusal

-- the run of these bytes
abbrev pub IsDrawn : Bool → List ℕ → Drawing → Type 0
IsDrawn is_picture input drawn = IsDrawnBy (has_steps (value_of input)) is_picture input drawn

-- why these bytes have no run
abbrev pub IsUndrawn : List ℕ → CommandFault → Type 0
IsUndrawn input its_fault = IsUndrawnBy (has_steps (value_of input)) input its_fault

-- a whole drawing is written; of a run that is written while it is drawn nothing is said here
abbrev pub IsWritten : Drawing → Option (List ℕ) → Option (List ℕ) → Type 0
IsWritten (drawing.Link its_job) old new = Unit {0}
IsWritten (drawing.Schedule its_job) old new = Unit {0}
IsWritten (drawing.Whole text) old new = Appends old new (string_bytes text)

-- the run of a link job begins from a lawful start, and that of a schedule is replayed to its end
abbrev pub IsReplayed : Drawing → Type 0
IsReplayed (drawing.Link its_job) = IsLawful its_job.params its_job.start
IsReplayed (drawing.Schedule its_job) = IsReplayedJob its_job
IsReplayed (drawing.Whole text) = Unit {0}
