-- The scenario that some bytes are, and the text of what its steps come to; or why there is none.
-- Example: The bytes of a job without steps are no scenario, and the status is 1. Bytes that are no
-- job are refused as `stab tree` refuses them. A job whose first start has two frames under the
-- capacity 1 cannot begin, so the status is 3, as that of `stab tree` is.
-- Source: this project's own.
use Rattle.std.specs.Prelude.{◌≡◌, ◌≢◌, ◌⊎◌, ℕ, ◌<◌, List, length, Ok, Err}
use Rattle.stab_treecore.specs.declared.change_fault.ChangeFault.TheVariants as change
use Rattle.stab_job.specs.Jobs.{job}
use Rattle.stab_job.specs.declared.fault.JobFault.TheVariants.{Memory as no_memory}
use Rattle.rignolda_scenario.specs.Counts.{IsUnrun}
use Rattle.rignolda_scenario.specs.Scenarios.{scenario}
use Rattle.rignolda_scenario.specs.Texts.{scenario_text}
use Rattle.rignolda_scenario.specs.declared.fault.ScenarioFault.{ScenarioFault}
use Rattle.rignolda_scenario.specs.declared.fault.ScenarioFault.TheVariants as fault
use Rattle.rignolda_scenario.specs.declared.read.Scenario.{Scenario}
use Rattle.stab_task.specs.Loading.{most_bytes}
use Rattle.stab_task.specs.declared.fault.CliFault.{CliFault}
use Rattle.stab_task.specs.declared.fault.CliFault.TheVariants as task
use Rattle.rignolda_commands.specs.declared.fault.CommandFault.{CommandFault}
use Rattle.rignolda_commands.specs.declared.fault.CommandFault.TheVariants.{Job, Steps}

-- the fault of a command that is of this refusal
abbrev pub steps_refused : ScenarioFault → CommandFault
steps_refused fault.Memory = Job task.Memory
steps_refused (fault.Job refusal) = Job (task.Job refusal)
steps_refused (fault.Run (change.Begin refusal)) = Job (task.Tree refusal)
steps_refused refusal = Steps refusal

-- the text is that of the scenario that these bytes are
pub record IsTold (input text : List ℕ) : Type 0 where
  pub its_scenario : Scenario
  pub read : scenario input ≡ Ok its_scenario
  pub the_text : text ≡ scenario_text its_scenario

-- these bytes are a scenario that cannot be run for this reason
pub record IsUnrunnable (input : List ℕ) (refusal : ScenarioFault) : Type 0 where
  pub its_scenario : Scenario
  pub read : scenario input ≡ Ok its_scenario
  pub unrun : IsUnrun its_scenario.job its_scenario.steps refusal

-- these bytes are no scenario, or one that cannot be run
abbrev pub IsRefused : List ℕ → ScenarioFault → Type 0
IsRefused input refusal =
    (refusal ≢ fault.Memory → scenario input ≡ Err refusal) ⊎ IsUnrunnable input refusal

-- these bytes cannot be loaded; a reader may fail, and memory may be refused, at any bytes
abbrev pub IsUnreadable : List ℕ → CommandFault → Type 0
IsUnreadable input (Job task.Read) = Unit {0}
IsUnreadable input (Job task.TooLong) = most_bytes < length input
IsUnreadable input (Job task.Memory) = Unit {0}
IsUnreadable input _ = ⊥

-- why these bytes have no text: they cannot be loaded, or are refused
abbrev pub IsUntold : List ℕ → CommandFault → Type 0
IsUntold input its_fault =
    IsUnreadable input its_fault
    ⊎ ((refusal : ScenarioFault) × (its_fault ≡ steps_refused refusal) × IsRefused input refusal)
