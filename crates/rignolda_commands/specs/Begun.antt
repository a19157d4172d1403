-- The job of a tree that some bytes are, whose links can begin, and the text of its bounds; and the
-- link job that some bytes are, whose link can begin.
-- Example: The bytes of a job whose first start has two frames under the capacity 1 are a job that
-- cannot begin, and the fault is the one of `stab tree`. A link job of capacity 1 whose start has
-- two frames cannot begin either, and the fault is the one of `stab link`. The bytes of the worst
-- start are a link job by their looks, so they have no bounds for being that, and so are these with
-- a member `version` that no job of a tree may have; but not with a member `tree`.
-- Source: this project's own.
use Rattle.std.specs.Prelude.{◌≡◌, ◌≢◌, ◌⊎◌, ℕ, List, None, Ok, Err}
use Rattle.stab_core.specs.Replay.{IsLawful}
use Rattle.stab_job.specs.JobValues.{JobValue, network}
use Rattle.stab_job.specs.Jobs.{job}
use Rattle.stab_job.specs.declared.fault.JobFault.TheVariants as tree
use Rattle.stab_job.specs.Unscheduled.{unscheduled}
use Rattle.stab_script.specs.declared.link_job.LinkJob.{LinkJob}
use Rattle.stab_script.specs.declared.link_job.LinkJobFault.TheVariants as link
use Rattle.stab_json.specs.Values.{value_of}
use Rattle.stab_script.specs.LinkJobs.{link_job}
use Rattle.rignolda_commands.specs.Unanswered.{IsUnanswered}
use Rattle.stab_task.specs.declared.command.Task.TheVariants.{Tree}
use Rattle.stab_task.specs.declared.fault.CliFault.{CliFault}
use Rattle.stab_treecore.specs.Network.{IsNetwork}
use Rattle.stab_task.specs.declared.fault.CliFault.TheVariants as task
use Rattle.rignolda_explain.specs.Kinds.{chosen}
use Rattle.rignolda_findings.specs.declared.refusal.Kind.TheVariants.{LinkJob as OfLink}
use Rattle.rignolda_verdict.specs.BoundsTexts.{bounds_text}
use Rattle.rignolda_commands.specs.declared.fault.CommandFault.{CommandFault}
use Rattle.rignolda_commands.specs.declared.fault.CommandFault.TheVariants as its

-- these bytes are this job, and each of its links can begin
pub record IsBegun (input : List ℕ) (its_job : JobValue) : Type 0 where
  pub read : job input ≡ Ok its_job
  pub network : IsNetwork (network its_job)

-- these bytes are a job, each of whose links can begin, and this is it with an empty schedule
pub record IsBegunUnscheduled (input : List ℕ) (its_job : JobValue) : Type 0 where
  pub whole : JobValue
  pub begun : IsBegun input whole
  pub same : its_job ≡ unscheduled whole

-- these bytes are this link job, and its link can begin
pub record IsBegunLink (input : List ℕ) (its_job : LinkJob) : Type 0 where
  pub read : link_job input ≡ Ok its_job
  pub lawful : IsLawful its_job.params its_job.start

-- why these bytes are no job of a tree that can begin: what keeps a job from its answer by `stab
-- tree`
abbrev pub IsUnbegun : List ℕ → CliFault → Type 0
IsUnbegun input fault = IsUnanswered Tree input fault

-- these bytes have the shape of a link job: if its reader refuses them, then for what they say
abbrev pub HasLinkShape : List ℕ → Type 0
HasLinkShape input = (link_job input ≢ Err link.Json) × (link_job input ≢ Err link.Shape)

-- these bytes are taken for a link job, as by the other commands, and have the shape of one
abbrev pub IsForLinks : List ℕ → Type 0
IsForLinks input = (chosen None (value_of input) ≡ OfLink) × HasLinkShape input

-- why these bytes have no bounds: what keeps a job from its answer by `stab tree`, but where they
-- are a link job, which has neither the shape nor the version of a job of a tree
abbrev pub HasNoBounds : List ℕ → CommandFault → Type 0
HasNoBounds input (its.Job fault) =
    IsUnbegun input fault × (fault ≡ task.Job tree.Shape → ¬ IsForLinks input)
    × (fault ≡ task.Job tree.Version → ¬ IsForLinks input)
HasNoBounds input its.LinkJob =
    ((job input ≡ Err tree.Shape) ⊎ (job input ≡ Err tree.Version)) × IsForLinks input
HasNoBounds input fault = ⊥

-- the text is that of the bounds of the nodes of the job that these bytes are
pub record AreBounds (input text : List ℕ) : Type 0 where
  pub its_job : JobValue
  pub begun : IsBegun input its_job
  pub the_text : text ≡ bounds_text (network its_job)
