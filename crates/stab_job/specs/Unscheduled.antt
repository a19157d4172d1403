-- Unscheduled: a job without the steps of its schedule.
-- Example: The job of two links under one schedule of six steps is the same job without them: its
-- tree, parameters, starts, scripts, turns, items and openings are the same, and its schedule is
-- empty. Where one of the six steps is on the link into a node that the tree does not have, the
-- bytes are no job, and so there is none without its steps either.
-- Source: this project's own.
use Rattle.std.specs.Prelude.{◌≡◌, Bool, true, false, [], Result, Ok}
use Rattle.stab_job.specs.JobValues.{JobValue}
use Rattle.stab_job.specs.declared.fault.JobFault.{JobFault}

-- the job with an empty schedule
abbrev pub unscheduled : JobValue → JobValue
unscheduled j = record {
  params = j.params;
  tree = j.tree;
  items = j.items;
  starts = j.starts;
  scripts = j.scripts;
  turns = j.turns;
  schedule = [];
  openings = j.openings;
}

-- there is such a job, and this is it with an empty schedule
abbrev pub IsUnscheduled : Result JobValue JobFault → JobValue → Type 0
IsUnscheduled whole j = (its_job : JobValue) × (whole ≡ Ok its_job) × (j ≡ unscheduled its_job)

-- there is such a job, and this is it: as it is where steps are kept, and else with an empty
-- schedule
abbrev pub IsKeptOf : Bool → Result JobValue JobFault → JobValue → Type 0
IsKeptOf true whole j = whole ≡ Ok j
IsKeptOf false whole j = IsUnscheduled whole j
