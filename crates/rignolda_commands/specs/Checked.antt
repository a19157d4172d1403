-- A report that is checked against its job, or the text of a link against its link job. Which of
-- both it is, is seen by the bytes of the job. Where a job of a tree has a member `backlogs`, the
-- report counts from a moment: the starts of the links are what was queued in them then, and each
-- backlog is what the parent of its node had for the node.
-- Example: The bytes of a job, and the text of the report of a run of it: the report that the text
-- is obeys, and the answer is `obeys` and a newline. With one item swapped with the next one in the
-- text, the answer names the node that has them. The bytes of the worst start of capacity 1, and
-- its eight lines: the link obeys. With 98 in the place of its stray 99, the link law is broken.
-- The job of the chain r, a, b with the backlogs `[[], [], [7]]`, and a report by which b received
-- 7: it obeys, though nobody has published 7 since that moment.
-- Source: this project's own.
use Rattle.std.specs.Prelude.{◌≡◌, ◌≢◌, ◌↔◌, ℕ, Bool, List, Option, Some, None, IsTrue, Ok, Err}
use Rattle.std.specs.Prelude.{IfSome, codes, option_and_then}
use Rattle.serde_json.specs.Data.{Data}
use Rattle.serde_json.specs.Find.{get}
use Rattle.stab_core.specs.LinkState.{LinkState}
use Rattle.stab_core.specs.Texts.{link_text}
use Rattle.rignolda_explain.specs.Kinds.{chosen}
use Rattle.rignolda_findings.specs.declared.refusal.Kind.{Kind}
use Rattle.rignolda_findings.specs.declared.refusal.Kind.TheVariants as kind
use Rattle.stab_job.specs.JobValues.{JobValue, network}
use Rattle.stab_json.specs.Values.{value_of}
use Rattle.stab_judge.specs.Obeys.{Obeys}
use Rattle.rignolda_since.specs.Backlogs.{backlogs}
use Rattle.rignolda_since.specs.ObeysSince.{ObeysSince}
use Rattle.rignolda_since.specs.VerdictTexts.{SaysSince}
use Rattle.stab_judge.specs.Reports.{OnePerNode, ReportValue}
use Rattle.stab_report.specs.Texts.{IsNoText, IsTextOf}
use Rattle.stab_script.specs.declared.link_job.LinkJob.{LinkJob}
use Rattle.rignolda_commands.specs.Unanswered.{IsUnanswered}
use Rattle.stab_task.specs.Loading.{IsUnloaded}
use Rattle.stab_task.specs.declared.fault.CliFault.{CliFault}
use Rattle.stab_task.specs.declared.fault.CliFault.TheVariants.{Memory}
use Rattle.rignolda_verdict.specs.LinkTexts.{IsNoLink}
use Rattle.rignolda_verdict.specs.LinkVerdicts.{ObeysLink, SaysLinkVerdict}
use Rattle.rignolda_verdict.specs.Verdicts.{SaysVerdict}
use Rattle.rignolda_commands.specs.Begun.{IsBegun, IsBegunLink}
use Rattle.rignolda_commands.specs.Drawn.{task_of}
use Rattle.rignolda_commands.specs.declared.fault.CommandFault.{CommandFault}
use Rattle.rignolda_commands.specs.declared.fault.CommandFault.TheVariants.{Job, Backlogs, Unloaded}
use Rattle.rignolda_commands.specs.declared.fault.CommandFault.TheVariants.{Line, LinkLine}

-- This text is that of a report of this job. It is answered that it obeys exactly if it obeys the
-- laws of the job's network, and the answer says so, or which part is broken.
pub record IsJudged (its_job : JobValue) (text : List ℕ) (obeys : Bool) (answer : List ℕ)
    : Type 0 where
  pub report : ReportValue
  pub its_text : IsTextOf its_job.tree text report
  pub entries : OnePerNode its_job.tree.parents report
  pub exactly : IsTrue obeys ↔ Obeys (network its_job) report
  pub says : SaysVerdict (network its_job) report obeys answer

-- This text is that of a report of this job, which counts from a moment with these backlogs. It is
-- answered that it obeys exactly if it obeys the laws since the moment, and the answer says so, or
-- which part is broken.
pub record IsJudgedSince (its_job : JobValue) (lists : List (List ℕ)) (text : List ℕ) (obeys : Bool)
    (answer : List ℕ) : Type 0 where
  pub report : ReportValue
  pub its_text : IsTextOf its_job.tree text report
  pub entries : OnePerNode its_job.tree.parents report
  pub exactly : IsTrue obeys ↔ ObeysSince (network its_job) lists report
  pub says : SaysSince (network its_job) lists report obeys answer

-- the backlogs of a value, where it has some
abbrev pub given_backlogs : Option Data → Option Data
given_backlogs d = option_and_then (get (codes "backlogs")) d

-- the report is judged by the backlogs that are given, or as that of a whole run
abbrev pub IsJudgedBy : Option Data → JobValue → List ℕ → Bool → List ℕ → Type 0
IsJudgedBy None its_job text obeys answer = IsJudged its_job text obeys answer
IsJudgedBy (Some given) its_job text obeys answer = (lists : List (List ℕ))
    × (backlogs its_job.tree given ≡ Ok lists) × IsJudgedSince its_job lists text obeys answer

-- This text is that of a link in some state. It is answered that it obeys exactly if a link of this
-- job may be in this state, and the answer says so, or which part is broken.
pub record IsJudgedLink (its_job : LinkJob) (text : List ℕ) (obeys : Bool) (answer : List ℕ)
    : Type 0 where
  pub state : LinkState
  pub its_text : text ≡ link_text state
  pub exactly : IsTrue obeys ↔ ObeysLink its_job state
  pub says : SaysLinkVerdict its_job state obeys answer

-- these bytes are a job, and this text is that of a report of it, which is judged so
pub record IsCheckedTree (input text : List ℕ) (obeys : Bool) (answer : List ℕ) : Type 0 where
  pub its_job : JobValue
  pub begun : IsBegun input its_job
  pub judged : IsJudgedBy (given_backlogs (value_of input)) its_job text obeys answer

-- these bytes are a link job, and this text is that of a link, which is judged so
pub record IsCheckedLink (input text : List ℕ) (obeys : Bool) (answer : List ℕ) : Type 0 where
  pub its_job : LinkJob
  pub begun : IsBegunLink input its_job
  pub judged : IsJudgedLink its_job text obeys answer

-- bytes of this kind are a job, and this text is judged so against it
abbrev pub IsCheckedAs : Kind → List ℕ → List ℕ → Bool → List ℕ → Type 0
IsCheckedAs kind.LinkJob input text obeys answer = IsCheckedLink input text obeys answer
IsCheckedAs kind.Job input text obeys answer = IsCheckedTree input text obeys answer

-- the same of these bytes, whose kind is seen by them
abbrev pub IsChecked : List ℕ → List ℕ → Bool → List ℕ → Type 0
IsChecked input text obeys answer =
    IsCheckedAs (chosen None (value_of input)) input text obeys answer

-- why a report that had these bytes, where its reader tells them, is not loaded: it is not refused
-- memory, which is a fault of its own
abbrev pub IsUnloadedReport : Option (List ℕ) → CliFault → Type 0
IsUnloadedReport had fault = (fault ≢ Memory) × IsUnloaded had fault

-- why there is no verdict on bytes of this kind and the text that is checked, where its reader
-- tells it: the job is refused, as `stab` does it, or its backlogs are; or the text is not loaded,
-- or it is that of no report of the job, or of no link
abbrev pub IsUncheckedAs : Kind → List ℕ → Option (List ℕ) → CommandFault → Type 0
IsUncheckedAs its_kind input had (Job fault) = IsUnanswered (task_of its_kind) input fault
IsUncheckedAs its_kind input had (Unloaded fault) = IsUnloadedReport had fault
IsUncheckedAs its_kind input had (Backlogs refusal) =
    (its_kind ≡ kind.Job) × (its_job : JobValue) × IsBegun input its_job
    × (given : Data) × (given_backlogs (value_of input) ≡ Some given)
    × (backlogs its_job.tree given ≡ Err refusal)
IsUncheckedAs its_kind input had (Line line) =
    (its_kind ≡ kind.Job) × (its_job : JobValue) × IsBegun input its_job
    × IfSome had (IsNoText its_job.tree)
IsUncheckedAs its_kind input had (LinkLine line) =
    (its_kind ≡ kind.LinkJob) × ((its_job : LinkJob) × IsBegunLink input its_job)
    × IfSome had IsNoLink
IsUncheckedAs its_kind input had fault = ⊥

-- the same of a job of a tree, and of a link job
abbrev pub IsUncheckedTree : List ℕ → Option (List ℕ) → CommandFault → Type 0
IsUncheckedTree input had fault = IsUncheckedAs kind.Job input had fault

abbrev pub IsUncheckedLink : List ℕ → Option (List ℕ) → CommandFault → Type 0
IsUncheckedLink input had fault = IsUncheckedAs kind.LinkJob input had fault

-- why there is no verdict on these bytes and this text
abbrev pub IsUnchecked : List ℕ → Option (List ℕ) → CommandFault → Type 0
IsUnchecked input had fault = IsUncheckedAs (chosen None (value_of input)) input had fault
