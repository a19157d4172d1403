-- Lemmas for the crates above: why a tree cannot begin, and why its schedule is refused; a member of
-- a job, by the members that were read beside its schedule; and a job by its value.
use Rattle.std.proofs.Common.{◌≢◌, List, [], ◌∷◌, All, IsSome, refl, ap, inl, inr, subst, arith, ◌≡◌, ℕ, Option, Some, option_and_then}
use Rattle.std.proofs.lemmas.List.Elements.{All-head, All-tail}
use Rattle.stab_frames.specs.Parameters.{Parameters}
use Rattle.stab_core.specs.declared.start.Start.{Start as LinkStart}
use Rattle.stab_core.specs.declared.start.StartFault.{StartFault}
use Rattle.stab_core.specs.declared.start.StartFault.TheVariants.{TooManyFrames, TooManyAcks, Memory as no_memory_at_start}
use Rattle.stab_core.specs.Link.{IsReason}
use Rattle.stab_core.specs.LinkSetup.{CanBegin, LinkSetup, setups}
use Rattle.stab_core.specs.Replay.{IsLawful}
use Rattle.stab_job.specs.JobValues.{IsJob, JobValue, network}
use Rattle.stab_job.specs.Replays.{IsReplayed}
use Rattle.stab_tree.specs.Nodes.{parent_at}
use Rattle.stab_treecore.specs.declared.event.TreeEvent.{TreeEvent}
use Rattle.stab_treecore.specs.declared.fault.TreeStartFault.{TreeStartFault}
use Rattle.stab_treecore.specs.declared.fault.TreeStartFault.TheVariants.{StartCount, Start, Step}
use Rattle.stab_treecore.specs.declared.fault.TreeStepFault.TheVariants.{NoSuchLink, Memory}
use Rattle.stab_treecore.specs.Network.{Network}
use Rattle.stab_treecore.specs.Refusals.{IsFirstFault, IsOpeningReason, IsScheduleReason, IsStartReason, NamesLink, NamesNoLink, ReachesEvent}
use Rattle.stab_treecore.specs.TreeReplay.{initial_tree}
use Rattle.stab_treecore.specs.TreeStep.{tree_step}
use Rattle.stab_treecore.specs.WholeTree.{WholeTree}
use Rattle.serde_json.specs.Data.{Data}
use Rattle.serde_json.specs.Find.{get}
use Rattle.stab_job.specs.Jobs.{job, job_of_data}
use Rattle.stab_job.specs.declared.fault.JobFault.TheVariants.{Json}
use Rattle.stab_json.specs.Checks.{◌>>=◌, ◌or◌}
use Rattle.stab_json.specs.Values.{value_of}
use Rattle.stab_job.specs.Parts.{the_schedule, SameMembers}
use Rattle.stab_job.specs.Unscheduled.{IsUnscheduled}

-- a schedule without events is refused only where the tree cannot begin
pub reason_without_events : (params : List Parameters) (starts : List LinkStart) (net : Network) (fault : TreeStartFault)
    → IsScheduleReason params starts net [] fault → IsStartReason params net.tree.parents starts fault
reason_without_events params starts net StartCount why = why
reason_without_events params starts net (Start fault) why = why
reason_without_events params starts net (Step NoSuchLink) why = absurd why.3
reason_without_events params starts net (Step Memory) why = absurd why.3

-- and where it cannot begin, every schedule is refused
pub start_reason : (params : List Parameters) (starts : List LinkStart) (net : Network) (events : List TreeEvent) (fault : TreeStartFault)
    → IsStartReason params net.tree.parents starts fault → IsScheduleReason params starts net events fault
start_reason params starts net events StartCount why = why
start_reason params starts net events (Start fault) why = why
start_reason params starts net events (Step fault) why = absurd why

-- a start that is refused, and not for memory, is not lawful
pub not_lawful : (link : LinkSetup) (fault : StartFault) → fault ≢ no_memory_at_start → IsReason link.params link.start fault
    → IsLawful link.params link.start → ⊥
not_lawful link TooManyFrames named reason lawful = absurd (omega (arith, lawful.frames, reason))
not_lawful link TooManyAcks named reason lawful = absurd (omega (arith, lawful.acks, reason.1))
not_lawful link no_memory_at_start named reason lawful = named refl

-- where a start is refused, not all links can begin
pub not_all_begin : (links : List LinkSetup) (fault : StartFault) → fault ≢ no_memory_at_start → IsFirstFault links fault → All CanBegin links → ⊥
not_all_begin [] fault named first all = first
not_all_begin (link ∷ links) fault named (inl here) all = not_lawful link fault named here (All-head CanBegin link links all).1
not_all_begin (link ∷ links) fault named (inr later) all = not_all_begin links fault named later.1 (All-tail CanBegin link links all)

-- links that cannot begin, and not for memory, have a first fault
pub first_of : (links : List LinkSetup) (fault : StartFault) → fault ≢ no_memory_at_start → IsOpeningReason links fault → IsFirstFault links fault
first_of links TooManyFrames named reason = reason
first_of links TooManyAcks named reason = reason
first_of links no_memory_at_start named reason = absurd (named refl)

-- no event of a schedule names no link where all of them name links
pub all_named : (t : WholeTree) (events : List TreeEvent) → All (NamesLink t.parents) events
    → ReachesEvent (λ now e. NamesNoLink now.parents e) t events → ⊥
all_named t [] all reaches = reaches
all_named t (e ∷ es) all (inl none) =
    let some : IsSome (parent_at t.parents e.child) = All-head (NamesLink t.parents) e es all in
    cc
all_named t (e ∷ es) all (inr later) = all_named (tree_step t e) es (All-tail (NamesLink t.parents) e es all) later.1

-- a job of which all links begin, and whose schedule names links alone, is refused for memory alone
pub memory_alone : (job : JobValue) (fault : TreeStartFault) → IsJob job → IsReplayed job
    → fault ≢ Start no_memory_at_start → fault ≢ Step Memory
    → IsScheduleReason job.params job.starts (network job) job.schedule fault → ⊥
memory_alone job StartCount is_job replayed no_start no_step reason =
    reason (is_job.one_params_each, is_job.one_start_each)
memory_alone job (Start fault) is_job replayed no_start no_step reason =
    let links = setups job.params job.starts in
    let named : fault ≢ no_memory_at_start = λ same. no_start (ap Start same) in
    not_all_begin links fault named (first_of links fault named reason.2) replayed.begins.can_begin
memory_alone job (Step NoSuchLink) is_job replayed no_start no_step reason =
    all_named (initial_tree (network job)) job.schedule replayed.named reason.3
memory_alone job (Step Memory) is_job replayed no_start no_step reason = no_step refl

-- nor can it not begin
pub begins_or_memory : (job : JobValue) (fault : TreeStartFault) → IsJob job → IsReplayed job → fault ≢ Start no_memory_at_start
    → IsStartReason job.params job.tree.parents job.starts fault → ⊥
begins_or_memory job fault is_job replayed no_start reason =
    memory_alone job fault is_job replayed no_start
    (λ same. subst (λ f. IsStartReason job.params job.tree.parents job.starts f) same reason)
    (start_reason job.params job.starts (network job) job.schedule fault reason)

-- a member of another name is that of the bytes
pub member_of : (bytes : List ℕ) (d others : Data) (name : List ℕ) → value_of bytes ≡ Some d → SameMembers d others → name ≢ the_schedule
    → option_and_then (get name) (value_of bytes) ≡ get name others
member_of bytes d others name is same other = rw is (same name other)

-- the job of the bytes is that of their value
pub job_by_value : (bytes : List ℕ) (d : Data) → Some d ≡ value_of bytes → job_of_data d ≡ job bytes
job_by_value bytes d is = ap (λ (o : Option Data). (o or Json) >>= job_of_data) is

-- also without its schedule
pub unscheduled_by_value : (bytes : List ℕ) (d : Data) (j : JobValue) → Some d ≡ value_of bytes → IsUnscheduled (job_of_data d) j → IsUnscheduled (job bytes) j
unscheduled_by_value bytes d j is read = subst (λ whole. IsUnscheduled whole j) (job_by_value bytes d is) read
