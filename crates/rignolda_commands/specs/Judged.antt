-- Logs that are judged, and why some bytes have no verdict.
-- Example: The bytes of a job whose member `received` has one list for each of its nodes are
-- judged: the answer is `obeys` and a newline, or names the node whose list the laws do not allow.
-- Without that member the fault is a wrong shape of the logs.
-- Source: this project's own.
use Rattle.std.specs.Prelude.{◌≡◌, ℕ, ◌↔◌, Bool, List, length, Option, Some, None, IsTrue}
use Rattle.std.specs.Prelude.{Result, Ok, Err}
use Rattle.serde_json.specs.Data.{Data}
use Rattle.stab_job.specs.JobValues.{JobValue, network}
use Rattle.stab_job.specs.Jobs.{job}
use Rattle.stab_job.specs.Unscheduled.{IsUnscheduled}
use Rattle.stab_json.specs.Values.{value_of}
use Rattle.rignolda_since.specs.Logs.{LogsValue, logs}
use Rattle.rignolda_since.specs.LogTexts.{SaysLogs}
use Rattle.rignolda_since.specs.ObeysLogs.{ObeysLogs}
use Rattle.rignolda_since.specs.declared.logs.LogsFault.{LogsFault}
use Rattle.rignolda_since.specs.declared.logs.LogsFault.TheVariants as fault
use Rattle.rignolda_commands.specs.Unanswered.{IsUnanswered}
use Rattle.stab_task.specs.declared.command.Task.TheVariants.{Tree}
use Rattle.rignolda_commands.specs.declared.fault.CommandFault.{CommandFault}
use Rattle.rignolda_commands.specs.declared.fault.CommandFault.TheVariants.{Job, Logs}

-- these bytes are this job
abbrev pub IsJob : List ℕ → JobValue → Type 0
IsJob input its_job = job input ≡ Ok its_job

-- these bytes are a job, and this is it with an empty schedule
abbrev pub IsUnscheduledJob : List ℕ → JobValue → Type 0
IsUnscheduledJob input its_job = IsUnscheduled (job input) its_job

-- the logs of the nodes of a job that a value has, if it is one
abbrev pub logs_in : JobValue → Option Data → Result LogsValue LogsFault
logs_in its_job None = Err fault.Shape
logs_in its_job (Some d) = logs its_job.tree (length its_job.items) d

-- These bytes are a job with logs. It is answered that they obey exactly if they obey the laws
-- since a moment, whatever was in the links and nodes then; and the answer says so, or which part
-- is broken.
pub record IsJudged (input : List ℕ) (obeys : Bool) (answer : List ℕ) : Type 0 where
  pub its_job : JobValue
  pub read : IsJob input its_job
  pub its_logs : LogsValue
  pub has : logs_in its_job (value_of input) ≡ Ok its_logs
  pub exactly : IsTrue obeys ↔ ObeysLogs (network its_job) its_logs
  pub says : SaysLogs (network its_job) its_logs obeys answer

-- why these bytes are not judged: the job is refused, as `stab tree` does it, or its logs are
abbrev pub IsUnjudged : List ℕ → CommandFault → Type 0
IsUnjudged input (Job refusal) = IsUnanswered Tree input refusal
IsUnjudged input (Logs refusal) =
    (its_job : JobValue) × IsJob input its_job
    × (logs_in its_job (value_of input) ≡ Err refusal)
IsUnjudged input its_fault = ⊥
