-- Members: what was read so far of the members of an object is what those members mean.
-- Example: Of `"capacity": 1, "labels": 4` the capacity is 1, there are four labels, and there is no
-- member but those of a link job. An object with a member `tree` has another one.
-- Source: this project's own.
use Rattle.std.specs.Prelude.{◌≡◌, ◌≢◌, ◌≤◌, ℕ, codes, List, Option, Some, None, MatchOption}
use Rattle.stab_core.specs.declared.event.Event.{Event}
use Rattle.stab_core.specs.declared.start.Start.{Start}
use Rattle.stab_frames.specs.Parameters.{Parameters}
use Rattle.stab_frames.specs.declared.frame.Frame.{Frame}
use Rattle.serde_json.specs.Data.{Data, Items, Members, object}
use Rattle.serde_json.specs.Find.{get, get_member, as_array}
use Rattle.stab_json.specs.Values.{◌>>=◌, most_u16, capped, label, list_or_absent}
use Rattle.stab_json.specs.Values.{count, entries}
use Rattle.stab_script.specs.Events.{event}
use Rattle.stab_script.specs.LinkJobs.{most_events}
use Rattle.stab_script.specs.Starts.{frame, start}
use Rattle.stab_script.specs.declared.link_job.LinkJob.{LinkJob}

-- how deep arrays and objects may nest in a job, in a member of it, and in a member of its start
abbrev pub in_job : ℕ
in_job = 127

abbrev pub in_member : ℕ
in_member = 126

abbrev pub in_start : ℕ
in_start = 125

-- what was read of a member is what the member of that name means; where nothing was, there is none
abbrev pub Holds : {X : Type 0} → (Data → Option X) → List ℕ → Members → Option X → Type 0
Holds meaning name ms read = MatchOption read (get_member name ms ≡ None)
    (λ x. get_member name ms >>= meaning ≡ Some x)

-- the members of a start
abbrev pub HasStart : List Frame → List ℕ → Option ℕ → Option ℕ → Members → Type 0
HasStart frames acks send recv ms =
    (list_or_absent frame (get_member (codes "frames") ms) ≡ Some frames)
    × (list_or_absent label (get_member (codes "acks") ms) ≡ Some acks)
    × Holds label (codes "send") ms send
    × Holds label (codes "recv") ms recv

-- no member of a link job has this name
abbrev pub IsOther : List ℕ → Type 0
IsOther name = (name ≢ codes "capacity") × (name ≢ codes "labels") × (name ≢ codes "start")
    × (name ≢ codes "events")

-- a value has no members but those of a link job
abbrev pub HasNoOthers : Data → Type 0
HasNoOthers d = (name : List ℕ) → IsOther name → get name d ≡ None

-- what was read of the events is what a list of no more entries than a job may have means: its
-- events, or none where an entry is no event; where nothing was, there is no such member
abbrev pub HoldsEvents : Members → Option (Option (List Event)) → Type 0
HoldsEvents ms read = MatchOption read (get_member (codes "events") ms ≡ None) (λ events. (ds : Items)
    × (get_member (codes "events") ms >>= as_array ≡ Some ds)
    × (count ds ≤ most_events) × (entries event ds ≡ events))

-- the link job of these parts
abbrev pub job_with : Parameters → Start → List Event → LinkJob
job_with params its_start events =
    record { params = params; start = its_start; events = events }

-- the members of a link job, and there are no others
abbrev pub HasJob : Option ℕ → Option ℕ → Option Start → Option (Option (List Event)) → Members
    → Type 0
HasJob capacity labels its_start events ms =
    Holds (capped most_u16) (codes "capacity") ms capacity
    × Holds (capped most_u16) (codes "labels") ms labels
    × Holds start (codes "start") ms its_start
    × HoldsEvents ms events
    × HasNoOthers (object ms)
