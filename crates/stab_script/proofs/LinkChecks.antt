-- A link job whose checks all pass.
use Rattle.std.proofs.Common.{◌≡◌, ◌≤◌, ℕ, List, Some, None, Ok, refl}
use Rattle.std.proofs.lemmas.Bool.{le-ltb}
use Rattle.serde_json.specs.Data.{Data}
use Rattle.stab_frames.specs.Parameters.{Parameters, fault_of}
use Rattle.stab_core.specs.declared.event.Event.{Event}
use Rattle.stab_json.specs.Values.{value_of, count, entries}
use Rattle.stab_script.specs.Events.{event}
use Rattle.stab_script.specs.LinkJobs.{link_job, link_job_of_data, most_events}
use Rattle.stab_script.specs.LinkMembers.{LinkMembers, members}

-- the job of a value that passes each check
pub value_passes : (value : Data) (m : LinkMembers) (params : Parameters) (events : List Event)
    → Some m ≡ members value
    → params.capacity ≡ m.capacity → params.labels ≡ m.labels → fault_of m.capacity m.labels ≡ None
    → count m.events ≤ most_events → Some events ≡ entries event m.events
    → link_job_of_data value ≡ Ok (record { params = params; start = m.start; events = events })
value_passes value m params events are_members capacity labels lawful few are_events =
    rw (← are_members) (rw lawful (rw (le-ltb most_events (count m.events) few) (rw (← are_events) (rw (← capacity) (rw (← labels) refl)))))

-- the job of bytes that pass each check
pub all_pass : (bytes : List ℕ) (value : Data) (m : LinkMembers) (params : Parameters) (events : List Event)
    → Some value ≡ value_of bytes → Some m ≡ members value
    → params.capacity ≡ m.capacity → params.labels ≡ m.labels → fault_of m.capacity m.labels ≡ None
    → count m.events ≤ most_events → Some events ≡ entries event m.events
    → link_job bytes ≡ Ok (record { params = params; start = m.start; events = events })
all_pass bytes value m params events is_value are_members capacity labels lawful few are_events =
    rw (← is_value) (value_passes value m params events are_members capacity labels lawful few are_events)
