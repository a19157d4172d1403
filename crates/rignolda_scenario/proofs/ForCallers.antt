-- For callers who read the job, or the value of the bytes, themselves.
use Rattle.std.proofs.Common.{◌≡◌, ℕ, List, codes, get_or, Option, Some, Result, Ok, ap, refl, arith, ◌∙◌}
use Rattle.serde_json.specs.Data.{Data}
use Rattle.serde_json.specs.Find.{get}
use Rattle.stab_job.specs.JobValues.{JobValue}
use Rattle.stab_job.specs.Jobs.{job, job_of_data}
use Rattle.stab_job.specs.declared.fault.JobFault.TheVariants as job_fault
use Rattle.stab_job.specs.Parts.{the_schedule, SameMembers}
use Rattle.stab_job.specs.Unscheduled.{IsUnscheduled, unscheduled}
use Rattle.stab_json.specs.Checks.{◌>>=◌, ◌or◌, ◌refused_as◌}
use Rattle.stab_json.specs.Values.{value_of}
use Rattle.rignolda_scenario.specs.Refusals.{job_refused}
use Rattle.rignolda_scenario.specs.Scenarios.{scenario, scenario_of_data, steps_of, steps_of_bytes, with_steps_of}
use Rattle.rignolda_scenario.specs.declared.fault.ScenarioFault.{ScenarioFault}
use Rattle.rignolda_scenario.specs.declared.fault.ScenarioFault.TheVariants as fault
use Rattle.rignolda_scenario.specs.declared.read.Scenario.{Scenario}
use Rattle.rignolda_scenario.specs.declared.step.Step.{Step}
use Rattle.rignolda_scenario.proofs.Unscheduled.{by_its_steps}

-- the steps are a member of another name than the schedule
pub steps_among : (j : JobValue) (bytes : List ℕ) (d others : Data) → value_of bytes ≡ Some d → SameMembers d others → steps_of_bytes j bytes ≡ steps_of j others
steps_among j bytes d others is same =
    let listed : get (codes "steps") d ≡ get (codes "steps") others =
    same (codes "steps") (λ e. let at : get_or (codes "steps") 1 0 ≡ get_or the_schedule 1 0 = ap (λ s. get_or s 1 0) e in absurd (omega (arith, at))) in
    rw is (rw listed refl)

-- the scenario of these steps
abbrev of_steps : JobValue → List Step → Result Scenario ScenarioFault
of_steps j steps = Ok (record { job = j; steps = steps })

-- so the scenario of the bytes is that of the job without its schedule, with the steps that were read beside it
pub scenario_by_members : (bytes : List ℕ) (j : JobValue) (d others : Data) → IsUnscheduled (job bytes) j → value_of bytes ≡ Some d → SameMembers d others → scenario bytes ≡ with_steps_of j others
scenario_by_members bytes j d others read is same = by_its_steps bytes j read ∙ ap (λ (r : Result (List Step) ScenarioFault). r >>= of_steps j) (steps_among j bytes d others is same)

-- and it is that of their value
pub scenario_by_value : (bytes : List ℕ) (d : Data) → value_of bytes ≡ Some d → scenario bytes ≡ scenario_of_data d
scenario_by_value bytes d is =
    ap (λ (o : Option Data). (((o or job_fault.Json) >>= job_of_data) refused_as job_refused)
    >>= (λ (its_job : JobValue). ((o or fault.Steps) >>= steps_of (unscheduled its_job)) >>= of_steps (unscheduled its_job))) is
