-- Link jobs: what the bytes of a link job mean, or the first check, in the stated order, that they
-- fail.
-- Example: `{}`: there is a value, but no members, so `Shape`. The worst start with 3 labels:
-- members, then `fault_of 1 3`, so `Params LabelsTooFew`. With `"jump"` as its last event: members,
-- lawful parameters, 12 events, and then an entry that means nothing, so `Event`.
-- Source: this project's profile.
use Rattle.std.specs.Prelude.{ℕ, List, nat_lt, option_map, Result, Ok}
use Rattle.serde_json.specs.Data.{Data}
use Rattle.stab_frames.specs.Parameters.{fault_of}
use Rattle.stab_json.specs.Checks.{◌>>=◌, ◌>>◌, ◌or◌, ◌when◌}
use Rattle.stab_json.specs.Values.{value_of, count, entries}
use Rattle.stab_script.specs.declared.link_job.LinkJob.{LinkJob}
use Rattle.stab_script.specs.declared.link_job.LinkJobFault.{LinkJobFault}
use Rattle.stab_script.specs.declared.link_job.LinkJobFault.TheVariants as fault
use Rattle.stab_script.specs.Events.{event}
use Rattle.stab_script.specs.LinkMembers.{members}

-- the most events of a link job, and the most entries of a tree's schedule
abbrev pub most_events : ℕ
most_events = 1000000

-- the job of this value: each line is a check, beside its fault
abbrev pub link_job_of_data : Data → Result LinkJob LinkJobFault
link_job_of_data value = do
  m ← members value or fault.Shape
  option_map fault.Params (fault_of m.capacity m.labels)
  fault.TooManyEvents when nat_lt most_events (count m.events)
  events ← entries event m.events or fault.Event
  Ok (record {
    params = record { capacity = m.capacity; labels = m.labels };
    start = m.start;
    events = events;
  })

-- the job of these bytes
abbrev pub link_job : List ℕ → Result LinkJob LinkJobFault
link_job bytes = do
  value ← value_of bytes or fault.Json
  link_job_of_data value
