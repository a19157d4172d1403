-- What is said of a job that was read without the steps of its schedule is said of the whole job.
use Rattle.std.proofs.Common.{◌≡◌, ◌↔◌, ℕ, Bool, List, IsTrue, Some, Ok, Err, sym, ap, ◌∙◌, subst}
use Rattle.serde_json.specs.Data.{Data}
use Rattle.stab_job.specs.JobValues.{JobValue, network}
use Rattle.stab_json.specs.Values.{value_of}
use Rattle.rignolda_since.specs.Logs.{LogsValue}
use Rattle.rignolda_since.specs.LogTexts.{SaysLogs}
use Rattle.rignolda_since.specs.ObeysLogs.{ObeysLogs}
use Rattle.rignolda_since.specs.declared.logs.LogsFault.{LogsFault}
use Rattle.rignolda_commands.specs.Judged.{IsJudged, IsUnjudged, IsUnscheduledJob, logs_in}
use Rattle.rignolda_commands.specs.declared.fault.CommandFault.TheVariants.{Logs}

-- logs of it that are judged
pub judged_by_whole : (input : List ℕ) (its_job : JobValue) (its_logs : LogsValue) (obeys : Bool) (answer : List ℕ) → IsUnscheduledJob input its_job → logs_in its_job (value_of input) ≡ Ok its_logs
    → (IsTrue obeys ↔ ObeysLogs (network its_job) its_logs) → SaysLogs (network its_job) its_logs obeys answer → IsJudged input obeys answer
judged_by_whole input its_job its_logs obeys answer (whole, read, same) has exactly says = record {
  its_job = whole;
  read = read;
  its_logs = its_logs;
  has = ap (λ j. logs_in j (value_of input)) (sym same) ∙ has;
  exactly = subst (λ j. IsTrue obeys ↔ ObeysLogs (network j) its_logs) same exactly;
  says = subst (λ j. SaysLogs (network j) its_logs obeys answer) same says;
}

-- logs of it that are refused
pub refused_logs : (input : List ℕ) (d : Data) (its_job : JobValue) (refusal : LogsFault) → IsUnscheduledJob input its_job → value_of input ≡ Some d → logs_in its_job (Some d) ≡ Err refusal
    → IsUnjudged input (Logs refusal)
refused_logs input d its_job refusal (whole, read, same) is why = (whole, read, ap (λ j. logs_in j (value_of input)) (sym same) ∙ ap (logs_in its_job) is ∙ why)
