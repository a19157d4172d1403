-- Parts: what was read so far of the members of a job is the steps of its schedule, a member beside
-- those of a job that a caller reads itself, and the other members.
-- Example: Of the members `"labels": 4`, `"schedule": [["a", "offer"]]`, `"received": [[7]]` and
-- `"turns": 9` the steps are one offer on the link into a, the member beside them, for a caller who
-- reads `received`, is one list with 7, and the others are `"labels": 4` and `"turns": 9`.
-- Source: this project's own.
use Rattle.std.specs.Prelude.{◌≡◌, ◌≢◌, ℕ, Bool, codes, List, Option, Some, None, IfSome, IsSome}
use Rattle.serde_json.specs.Data.{Data, Members}
use Rattle.serde_json.specs.Find.{get, get_member}
use Rattle.stab_json.specs.Values.{◌>>=◌, list_of}
use Rattle.stab_job.specs.ScheduleEntries.{NamedAct, named_act}
use Rattle.stab_script.specs.Members.{Holds}
use Rattle.stab_job.specs.Steps.{KeptSteps, AreKept}

-- the member of a job whose entries are its steps
abbrev pub the_schedule : List ℕ
the_schedule = codes "schedule"

-- no member of a job has this name
abbrev pub IsBeside : List ℕ → Type 0
IsBeside name = (name ≢ the_schedule) × (name ≢ codes "version") × (name ≢ codes "capacity")
    × (name ≢ codes "labels") × (name ≢ codes "tree") × (name ≢ codes "turns")
    × (name ≢ codes "items") × (name ≢ codes "starts") × (name ≢ codes "scripts")
    × (name ≢ codes "links") × (name ≢ codes "h") × (name ≢ codes "openings")

-- two values have the same members, but for the schedule
abbrev pub SameMembers : Data → Data → Type 0
SameMembers d others = (name : List ℕ) → name ≢ the_schedule → get name d ≡ get name others

-- the same, but for the member of this name as well, where it was read; and what was read is what
-- it means
abbrev pub SameBeside : {X : Type 0} → List ℕ → (Data → Option X) → Data → Data → Option X → Type 0
SameBeside its_name meaning d others read =
    ((name : List ℕ) → name ≢ the_schedule → (IsSome read → name ≢ its_name)
    → get name d ≡ get name others)
    × IfSome read (λ x. get its_name d >>= meaning ≡ Some x)

-- what was kept of a schedule, if there is one, was kept of what it means
abbrev pub HasSteps : Bool → Option KeptSteps → Members → Type 0
HasSteps keeps steps ms =
    IfSome steps (λ kept. (acts : List NamedAct) × AreKept keeps kept acts
    × Holds (list_of named_act) the_schedule ms (Some acts))

-- each member of a job but the schedule is the same in two objects
abbrev pub SameOfJob : Members → Members → Type 0
SameOfJob others ms = (get_member (codes "version") others ≡ get_member (codes "version") ms)
    × (get_member (codes "capacity") others ≡ get_member (codes "capacity") ms)
    × (get_member (codes "labels") others ≡ get_member (codes "labels") ms)
    × (get_member (codes "tree") others ≡ get_member (codes "tree") ms)
    × (get_member (codes "turns") others ≡ get_member (codes "turns") ms)
    × (get_member (codes "items") others ≡ get_member (codes "items") ms)
    × (get_member (codes "starts") others ≡ get_member (codes "starts") ms)
    × (get_member (codes "scripts") others ≡ get_member (codes "scripts") ms)
    × (get_member (codes "links") others ≡ get_member (codes "links") ms)
    × (get_member (codes "h") others ≡ get_member (codes "h") ms)
    × (get_member (codes "openings") others ≡ get_member (codes "openings") ms)

-- the others have the members of a job but for the schedule, and the steps, if any, were kept of
-- what it means; where there are none, there is no schedule
abbrev pub HasJobParts : Bool → Members → Option KeptSteps → Members → Type 0
HasJobParts keeps others steps ms =
    SameOfJob others ms
    × (get_member the_schedule others ≡ None)
    × HasSteps keeps steps ms
    × (steps ≡ None → get_member the_schedule ms ≡ None)

-- the others are the members but for the schedule, and but for the member of this name where that
-- was read; the steps are as above, and what was read of the member is what it means
abbrev pub HasParts : {X : Type 0} → List ℕ → (Data → Option X) → Bool → Members → Option KeptSteps
    → Option X → Members → Type 0
HasParts its_name meaning keeps others steps read ms =
    ((name : List ℕ) → name ≢ the_schedule → (IsSome read → name ≢ its_name)
    → get_member name others ≡ get_member name ms)
    × (get_member the_schedule others ≡ None)
    × HasSteps keeps steps ms
    × (steps ≡ None → get_member the_schedule ms ≡ None)
    × IfSome read (λ x. (get_member its_name ms >>= meaning ≡ Some x) × IsBeside its_name)
