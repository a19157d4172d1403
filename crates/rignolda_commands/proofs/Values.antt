-- What is made of the value of some bytes is what the bytes mean.
use Rattle.std.proofs.Common.{◌≡◌, ◌≢◌, ℕ, List, Option, Some, None, Result, Ok, Err, MatchResult, refl, sym, ap, ◌∙◌}
use Rattle.serde_json.specs.Data.{Data}
use Rattle.rignolda_scenario.specs.Scenarios.{scenario, scenario_of_data, with_steps_of}
use Rattle.rignolda_scenario.specs.declared.fault.ScenarioFault.{ScenarioFault}
use Rattle.rignolda_scenario.specs.declared.fault.ScenarioFault.TheVariants as scenario_fault
use Rattle.rignolda_scenario.specs.declared.read.Scenario.{Scenario}
use Rattle.rignolda_scenario.proofs.ForCallers.{scenario_by_members, scenario_by_value}
use Rattle.stab_job.specs.JobValues.{JobValue}
use Rattle.stab_job.specs.Jobs.{job, job_of_data}
use Rattle.stab_job.specs.declared.fault.JobFault.{JobFault}
use Rattle.stab_job.specs.declared.fault.JobFault.TheVariants as job_fault
use Rattle.stab_job.specs.Unscheduled.{IsUnscheduled}
use Rattle.stab_job.proofs.ForCallers.{job_by_value, unscheduled_by_value}
use Rattle.stab_job.specs.Parts.{SameMembers}
use Rattle.stab_json.specs.Checks.{◌>>=◌, ◌or◌}
use Rattle.stab_json.specs.Values.{value_of}
use Rattle.stab_script.specs.LinkJobs.{link_job, link_job_of_data}
use Rattle.stab_script.specs.declared.link_job.LinkJob.{LinkJob}
use Rattle.stab_script.specs.declared.link_job.LinkJobFault.{LinkJobFault}
use Rattle.stab_script.specs.declared.link_job.LinkJobFault.TheVariants as fault

-- a job
pub job_of_their_value : (input : List ℕ) (d : Data) (result : Result JobValue JobFault) → Some d ≡ value_of input
    → MatchResult result (λ j. job_of_data d ≡ Ok j) (λ why. why ≢ job_fault.Memory → job_of_data d ≡ Err why)
    → MatchResult result (λ j. job input ≡ Ok j) (λ why. why ≢ job_fault.Memory → job input ≡ Err why)
job_of_their_value input d (Ok j) is means = sym (job_by_value input d is) ∙ means
job_of_their_value input d (Err why) is means = λ other. sym (job_by_value input d is) ∙ means other

-- also without its schedule
pub unscheduled_of_value : (input : List ℕ) (d : Data) (result : Result JobValue JobFault) → Some d ≡ value_of input
    → MatchResult result (λ j. IsUnscheduled (job_of_data d) j) (λ why. why ≢ job_fault.Memory → job_of_data d ≡ Err why)
    → MatchResult result (λ j. IsUnscheduled (job input) j) (λ why. why ≢ job_fault.Memory → job input ≡ Err why)
unscheduled_of_value input d (Ok j) is means = unscheduled_by_value input d j is means
unscheduled_of_value input d (Err why) is means = λ other. sym (job_by_value input d is) ∙ means other

-- bytes without a value are no JSON
pub no_job : (input : List ℕ) → None ≡ value_of input → job input ≡ Err job_fault.Json
no_job input none = sym (ap (λ (o : Option Data). (o or job_fault.Json) >>= job_of_data) none)

-- the same of a link job
link_job_by_value : (input : List ℕ) (d : Data) → Some d ≡ value_of input → link_job_of_data d ≡ link_job input
link_job_by_value input d is = ap (λ (o : Option Data). (o or fault.Json) >>= link_job_of_data) is

pub same_link_job : (input : List ℕ) (d : Data) (result : Result LinkJob LinkJobFault) → Some d ≡ value_of input
    → MatchResult result (λ its_job. link_job_of_data d ≡ Ok its_job) (λ why. why ≢ fault.Memory → link_job_of_data d ≡ Err why)
    → MatchResult result (λ its_job. link_job input ≡ Ok its_job) (λ why. why ≢ fault.Memory → link_job input ≡ Err why)
same_link_job input d (Ok its_job) is means = sym (link_job_by_value input d is) ∙ means
same_link_job input d (Err why) is means = λ other. sym (link_job_by_value input d is) ∙ means other

pub no_link_job : (input : List ℕ) → None ≡ value_of input → link_job input ≡ Err fault.Json
no_link_job input none = sym (ap (λ (o : Option Data). (o or fault.Json) >>= link_job_of_data) none)

-- the same of a scenario
pub same_scenario : (input : List ℕ) (d : Data) (result : Result Scenario ScenarioFault) → Some d ≡ value_of input
    → MatchResult result (λ its. scenario_of_data d ≡ Ok its) (λ why. why ≢ scenario_fault.Memory → scenario_of_data d ≡ Err why)
    → MatchResult result (λ its. scenario input ≡ Ok its) (λ why. why ≢ scenario_fault.Memory → scenario input ≡ Err why)
same_scenario input d (Ok its) is means = scenario_by_value input d (sym is) ∙ means
same_scenario input d (Err why) is means = λ other. scenario_by_value input d (sym is) ∙ means other

pub no_scenario : (input : List ℕ) → None ≡ value_of input → scenario input ≡ Err (scenario_fault.Job job_fault.Json)
no_scenario input none = rw (no_job input none) refl

-- and by its steps, which were read beside the job
pub scenario_by_steps : (input : List ℕ) (j : JobValue) (others : Data) (result : Result Scenario ScenarioFault) → IsUnscheduled (job input) j
    → (d : Data) × (value_of input ≡ Some d) × SameMembers d others
    → MatchResult result (λ its. with_steps_of j others ≡ Ok its) (λ why. why ≢ scenario_fault.Memory → with_steps_of j others ≡ Err why)
    → MatchResult result (λ its. scenario input ≡ Ok its) (λ why. why ≢ scenario_fault.Memory → scenario input ≡ Err why)
scenario_by_steps input j others (Ok its) read (d, is, same) means = scenario_by_members input j d others read is same ∙ means
scenario_by_steps input j others (Err why) read (d, is, same) means = λ other. scenario_by_members input j d others read is same ∙ means other
