-- A scenario by the job that was read without its schedule, and by the value of its bytes.
use Rattle.std.proofs.Common.{◌≡◌, ℕ, List, refl}
use Rattle.stab_job.specs.JobValues.{JobValue}
use Rattle.serde_json.specs.Data.{Data}
use Rattle.stab_job.specs.Jobs.{job, job_of_data}
use Rattle.stab_job.specs.Unscheduled.{IsUnscheduled}
use Rattle.rignolda_scenario.specs.Scenarios.{scenario, scenario_of_data, with_steps, with_steps_of}

-- it is that job with the steps of the bytes
pub by_its_steps : (bytes : List ℕ) (j : JobValue) → IsUnscheduled (job bytes) j → scenario bytes ≡ with_steps j bytes
by_its_steps bytes j (whole, read, same) = rw (read, same) refl

-- so is that of a value
pub value_by_its_steps : (d : Data) (j : JobValue) → IsUnscheduled (job_of_data d) j → scenario_of_data d ≡ with_steps_of j d
value_by_its_steps d j (whole, read, same) = rw (read, same) refl
