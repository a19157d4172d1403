-- Steps: the events of a link job happen as they are read, and no list of them is kept.
-- Example: What stands where `["offer", 7]` leads from a start, and then meets `send_frame`, stands
-- where both lead from it.
-- Source: this project's own.
use Rattle.std.specs.Prelude.{◌≡◌, ◌<◌, codes, length, List, ◌++◌, Bool, true, false}
use Rattle.std.specs.Prelude.{Option, Some, None}
use Rattle.json.specs.Token.{Token}
use Rattle.json.specs.Json.{read_key}
use Rattle.serde_json.specs.Data.{Data, Items, Members, no_members, put}
use Rattle.stab_core.specs.declared.event.Event.{Event}
use Rattle.stab_core.specs.declared.start.Start.{Start}
use Rattle.stab_frames.specs.Parameters.{Parameters}
use Rattle.stab_json.specs.Values.{entries}
use Rattle.stab_script.specs.Events.{event}
use Rattle.stab_script.specs.Standing.{Stands, MembersMake}
use Rattle.stab_script.specs.Members.{in_member}

-- whatever start and events led to `old`, they and these events lead to `new`
abbrev pub LeadsOn : {S : Type 0} → (S → Parameters → Start → List Event → Type 0)
    → S → List Event → S → Type 0
LeadsOn StandsAfter old events new = (params : Parameters) (start : Start) (earlier : List Event)
    → StandsAfter old params start earlier → StandsAfter new params start (earlier ++ events)

-- where each entry is an event, they led from `old` to `new`; else one of them is none
abbrev pub EntriesTaken : {S : Type 0} → (S → Parameters → Start → List Event → Type 0)
    → S → Items → Bool → S → Type 0
EntriesTaken StandsAfter old ds true new =
    (events : List Event) × (entries event ds ≡ Some events) × LeadsOn StandsAfter old events new
EntriesTaken StandsAfter old ds false new = entries event ds ≡ None

-- what stands where the events lead that were read; there is nothing where an entry is none
abbrev pub StandsWhere : {S : Type 0} → (S → Parameters → Start → List Event → Type 0)
    → Option S → Parameters → Start → Option (List Event) → Type 0
StandsWhere StandsAfter (Some s) params start read =
    (events : List Event) × (read ≡ Some events) × StandsAfter s params start events
StandsWhere StandsAfter None params start read = read ≡ None

-- with a value for the events and the brace after it, the members before them make an object
abbrev pub LacksEvents : List Token → Members → List Token → Type 0
LacksEvents ts found us = (d : Data) (r rest : List Token) → length r < length us
    → Stands in_member us d r → read_key r ≡ Some (None, rest)
    → MembersMake in_member no_members (length ts) ts (put (codes "events") d found) rest
