-- Scenarios: what bytes mean as a scenario, or the first check, in the stated order, that they
-- fail: those of the job, that there is a list of steps, and each step in its order. No step looks
-- at the schedule of the job, so the scenario is without it. Example: Bytes that are no job are
-- refused for that, whatever their steps are. In the chain r, a, b the steps `["r", "offer"]` and
-- `["x", "offer"]` are refused at step 1, since no link leads into r; that no node is called x is
-- not looked at. Source: this project's profile.
use Rattle.std.specs.Prelude.{ℕ, suc, codes, List, [], ◌∷◌, Option, option_and_then}
use Rattle.std.specs.Prelude.{Result, Ok}
use Rattle.serde_json.specs.Data.{Data, Items, no_items, item}
use Rattle.serde_json.specs.Find.{as_array, get}
use Rattle.stab_frames.specs.Parameters.{Parameters}
use Rattle.stab_json.specs.Checks.{◌>>=◌, ◌or◌, ◌refused_as◌}
use Rattle.stab_json.specs.Values.{value_of}
use Rattle.stab_job.specs.Jobs.{job, job_of_data}
use Rattle.stab_job.specs.JobValues.{JobValue}
use Rattle.stab_job.specs.Unscheduled.{unscheduled}
use Rattle.stab_tree.specs.Nodes.{Nodes}
use Rattle.rignolda_scenario.specs.declared.fault.ScenarioFault.{ScenarioFault}
use Rattle.rignolda_scenario.specs.declared.fault.ScenarioFault.TheVariants as fault
use Rattle.rignolda_scenario.specs.declared.read.Scenario.{Scenario}
use Rattle.rignolda_scenario.specs.declared.step.Step.{Step}
use Rattle.rignolda_scenario.specs.Entries.{step_of}
use Rattle.rignolda_scenario.specs.Refusals.{job_refused}

-- the step of this number that a value means
abbrev pub numbered : Nodes → List Parameters → ℕ → Data → Result Step ScenarioFault
numbered t params number d = step_of t params d refused_as fault.Step number

-- the steps that these values mean, where `count` steps are before them; or the fault of the first
-- that means none
abbrev pub steps_after : Nodes → List Parameters → ℕ → Items → Result (List Step) ScenarioFault
steps_after t params count no_items = Ok []
steps_after t params count (item d ds) = do
  step ← numbered t params (suc count) d
  steps ← steps_after t params (suc count) ds
  Ok (step ∷ steps)

-- the list of steps of a value
abbrev pub listed_steps : Data → Option Items
listed_steps d = option_and_then as_array (get (codes "steps") d)

-- the steps of this value, for a job
abbrev pub steps_of : JobValue → Data → Result (List Step) ScenarioFault
steps_of j d = do
  values ← listed_steps d or fault.Steps
  steps_after j.tree j.params 0 values

-- the scenario of a job, with the steps of this value
abbrev pub with_steps_of : JobValue → Data → Result Scenario ScenarioFault
with_steps_of j d = do
  steps ← steps_of j d
  Ok (record { job = j; steps = steps })

-- the scenario that this value means
abbrev pub scenario_of_data : Data → Result Scenario ScenarioFault
scenario_of_data d = do
  its_job ← job_of_data d refused_as job_refused
  with_steps_of (unscheduled its_job) d

-- the steps of these bytes, for a job
abbrev pub steps_of_bytes : JobValue → List ℕ → Result (List Step) ScenarioFault
steps_of_bytes j bytes = do
  value ← value_of bytes or fault.Steps
  steps_of j value

-- the scenario of a job, with the steps of these bytes
abbrev pub with_steps : JobValue → List ℕ → Result Scenario ScenarioFault
with_steps j bytes = do
  steps ← steps_of_bytes j bytes
  Ok (record { job = j; steps = steps })

-- the scenario that these bytes mean
abbrev pub scenario : List ℕ → Result Scenario ScenarioFault
scenario bytes = do
  its_job ← job bytes refused_as job_refused
  with_steps (unscheduled its_job) bytes
