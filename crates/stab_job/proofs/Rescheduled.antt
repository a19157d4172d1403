-- The job of the members with the schedule, by the job of those without it.
use Rattle.std.proofs.Common.{◌≡◌, ◌≢◌, ℕ, codes, option_and_then, ◌≤◌, nat_lt, List, [], ◌∷◌, length, Option, Some, None, option_map, Result, Ok, Err, refl, sym, ap, ◌∙◌, arith}
use Rattle.std.proofs.lemmas.Bool.{le-ltb}
use Rattle.serde_json.specs.Data.{Data, Items, no_items, item, Members as ObjectMembers, object}
use Rattle.serde_json.specs.Find.{get, get_member, as_array}
use Rattle.stab_acts.specs.Scripts.{Acts}
use Rattle.stab_frames.specs.Parameters.{fault_of}
use Rattle.stab_json.specs.Checks.{◌>>=◌, ◌>>◌, ◌or◌, ◌when◌, ◌refused_as◌}
use Rattle.stab_json.specs.Values.{count, entries, list_of}
use Rattle.stab_script.specs.LinkJobs.{most_events}
use Rattle.stab_tree.specs.Nodes.{Nodes}
use Rattle.stab_tree.specs.Read.{tree_of}
use Rattle.stab_treecore.specs.declared.event.TreeEvent.{TreeEvent}
use Rattle.stab_job.specs.declared.fault.JobFault.{JobFault}
use Rattle.stab_job.specs.declared.fault.JobFault.TheVariants as fault
use Rattle.stab_job.specs.JobLinks.{are_miscounted, scripts_of, starts_of}
use Rattle.stab_job.specs.JobMembers.{Members, members, entries_of}
use Rattle.stab_job.specs.JobOpenings.{openings_of, version_of}
use Rattle.stab_job.specs.JobValues.{JobValue, links, most_items}
use Rattle.stab_job.specs.Jobs.{job_of_data, job_of_members, job_on_tree, job_of_scripts, schedule, are_out_of_range, params_of_job}
use Rattle.stab_job.specs.LinkParams.{link_params}
use Rattle.stab_job.specs.ScheduleEntries.{NamedAct, named_act, events_of}
use Rattle.stab_job.specs.Parts.{the_schedule, SameOfJob}
use Rattle.stab_job.specs.declared.version.Version.{Version}
use Rattle.stab_job.proofs.Scheduled.{scheduled, same_version, same_members, with_its_schedule}

-- a job with another schedule
abbrev pub rescheduled : List TreeEvent → JobValue → JobValue
rescheduled events j = record {
  params = j.params;
  tree = j.tree;
  items = j.items;
  starts = j.starts;
  scripts = j.scripts;
  turns = j.turns;
  schedule = events;
  openings = j.openings;
}

-- a check that came first was passed
passed : {B F : Type 0} (o : Option F) (r : Result B F) (b : B) → o >> r ≡ Ok b → (o ≡ None) × (r ≡ Ok b)
passed None r b is = (refl, is)
passed (Some fault) r b is = absurd (cc)

-- what a check found that came first
found : {A B F : Type 0} (r : Result A F) (f : A → Result B F) (b : B) → r >>= f ≡ Ok b → (a : A) × (r ≡ Ok a) × (f a ≡ Ok b)
found (Ok a) f b is = (a, refl, is)
found (Err fault) f b is = absurd (cc)

-- such a check is passed, and those that follow
pass : {B F : Type 0} (o : Option F) (r : Result B F) (b : B) → o ≡ None → r ≡ Ok b → o >> r ≡ Ok b
pass o r b none is = ap (λ p. p >> r) none ∙ is

find : {A B F : Type 0} (r : Result A F) (f : A → Result B F) (a : A) (b : B) → r ≡ Ok a → f a ≡ Ok b → r >>= f ≡ Ok b
find r f a b first is = ap (λ q. q >>= f) first ∙ is

-- what is found in two steps
found_first : {A B : Type 0} (f : A → Option B) (o : Option A) (b : B) → option_and_then f o ≡ Some b → (a : A) × (o ≡ Some a) × (f a ≡ Some b)
found_first f None b is = absurd (cc)
found_first f (Some a) b is = (a, refl, is)

-- there are as many entries as they mean
entries_count : {X : Type 0} (meaning : Data → Option X) (ds : Items) (xs : List X) → entries meaning ds ≡ Some xs → count ds ≡ length xs
entries_count meaning no_items [] is = refl
entries_count meaning no_items (x ∷ xs) is = absurd (cc)
entries_count meaning (item d ds) xs is =
    let first = found_first (λ x. option_and_then (λ later. Some (x ∷ later)) (entries meaning ds)) (meaning d) xs is in
    let more = found_first (λ later. Some (first.0 ∷ later)) (entries meaning ds) xs first.2 in
    let all : first.0 ∷ more.0 ≡ xs = cc in
    rw (← all) (rw (entries_count meaning ds more.0 more.1) (omega arith))

module _ (ds : Items) (acts : List NamedAct) (events : List TreeEvent) (means : entries named_act ds ≡ Some acts) where
  its_schedule : (names : List (List ℕ)) → events_of names acts ≡ Some events → schedule names ds ≡ Ok events
  its_schedule names is = rw means (rw is refl)

  on_scripts : (t : Nodes) (m : Members) (scripts : List Acts) (j : JobValue) → job_of_scripts t m scripts ≡ Ok j → events_of j.tree.names acts ≡ Some events
      → job_of_scripts t (scheduled ds m) scripts ≡ Ok (rescheduled events j)
  on_scripts t m scripts j is named =
      let turns = passed (fault.TurnsOutOfRange when are_out_of_range m.turns) _ j is in
      let old = found (schedule t.names m.schedule) _ j turns.1 in
      let params = found (link_params t (params_of_job m) m.links) _ j old.2 in
      let openings = found (openings_of t m.hold m.openings) _ j params.2 in
      let whole : (record { params = params.0; tree = t; items = m.items; starts = starts_of (links t) m.starts; scripts = scripts; turns = m.turns; schedule = old.0; openings = openings.0 }) ≡ j = cc in
      let same_tree : j.tree ≡ t = sym (ap (λ k. k.tree) whole) in
      let its_names : events_of t.names acts ≡ Some events = ap (λ (u : Nodes). events_of u.names acts) (sym same_tree) ∙ named in
      pass (fault.TurnsOutOfRange when are_out_of_range m.turns) _ (rescheduled events j) turns.0
      (find (schedule t.names ds) _ events (rescheduled events j) (its_schedule t.names its_names)
      (find (link_params t (params_of_job m) m.links) _ params.0 (rescheduled events j) params.1
      (find (openings_of t m.hold m.openings) _ openings.0 (rescheduled events j) openings.1 (ap (λ k. Ok (rescheduled events k)) whole))))

  module _ (few : length acts ≤ most_events) where
    not_too_many : fault.TooManyEvents when nat_lt most_events (count ds) ≡ None
    not_too_many = rw (entries_count named_act ds acts means) (rw (le-ltb most_events (length acts) few) refl)

    on_tree : (t : Nodes) (m : Members) (j : JobValue) → job_on_tree t m ≡ Ok j → events_of j.tree.names acts ≡ Some events → job_on_tree t (scheduled ds m) ≡ Ok (rescheduled events j)
    on_tree t m j is named =
        let items = passed (fault.TooManyItems when nat_lt most_items (length m.items)) _ j is in
        let old = passed (fault.TooManyEvents when nat_lt most_events (count m.schedule)) _ j items.1 in
        let starts = passed (fault.StartCount when are_miscounted (links t) m.starts) _ j old.1 in
        let counts = passed (fault.ScriptCount when are_miscounted (links t) m.scripts) _ j starts.1 in
        let scripts = found (scripts_of (links t) m.scripts refused_as fault.Script) _ j counts.1 in
        pass (fault.TooManyItems when nat_lt most_items (length m.items)) _ (rescheduled events j) items.0
        (pass (fault.TooManyEvents when nat_lt most_events (count ds)) _ (rescheduled events j) not_too_many
        (pass (fault.StartCount when are_miscounted (links t) m.starts) _ (rescheduled events j) starts.0
        (pass (fault.ScriptCount when are_miscounted (links t) m.scripts) _ (rescheduled events j) counts.0
        (find (scripts_of (links t) m.scripts refused_as fault.Script) _ scripts.0 (rescheduled events j) scripts.1 (on_scripts t m scripts.0 j scripts.2 named)))))

    of_members : (m : Members) (j : JobValue) → job_of_members m ≡ Ok j → events_of j.tree.names acts ≡ Some events → job_of_members (scheduled ds m) ≡ Ok (rescheduled events j)
    of_members m j is named =
        let params = passed (option_map fault.Params (fault_of m.capacity m.labels)) _ j is in
        let tree = found (tree_of m.tree refused_as fault.Tree) _ j params.1 in
        pass (option_map fault.Params (fault_of m.capacity m.labels)) _ (rescheduled events j) params.0
        (find (tree_of m.tree refused_as fault.Tree) _ tree.0 (rescheduled events j) tree.1 (on_tree tree.0 m j tree.2 named))

    of_version : (o : Option Members) (j : JobValue) → (o or fault.Shape >>= job_of_members) ≡ Ok j → events_of j.tree.names acts ≡ Some events
        → (option_map (scheduled ds) o or fault.Shape >>= job_of_members) ≡ Ok (rescheduled events j)
    of_version None j is named = absurd (cc)
    of_version (Some m) j is named = of_members m j is named

-- the job of an object, by that of its other members
pub job_with_schedule : (others ms : ObjectMembers) (acts : List NamedAct) (events : List TreeEvent) (j : JobValue) → SameOfJob others ms
    → get_member the_schedule others ≡ None → option_and_then (list_of named_act) (get_member the_schedule ms) ≡ Some acts → length acts ≤ most_events → job_of_data (object others) ≡ Ok j
    → events_of j.tree.names acts ≡ Some events → job_of_data (object ms) ≡ Ok (rescheduled events j)
job_with_schedule others ms acts events j same none steps few is named =
    let its = found_first (list_of named_act) (get_member the_schedule ms) acts steps in
    let list = found_first (entries named_act) (as_array its.0) acts its.2 in
    let v = found (version_of (get (codes "version") (object others)) or fault.Version) _ j is in
    let its_version : version_of (get (codes "version") (object ms)) or fault.Version ≡ Ok v.0 = ap (λ o. o or fault.Version) (sym (same_version others ms same none)) ∙ v.1 in
    find (version_of (get (codes "version") (object ms)) or fault.Version) _ v.0 (rescheduled events j) its_version
    (ap (λ o. o or fault.Shape >>= job_of_members) (with_its_schedule others ms same none v.0 list.0 (ap entries_of its.1 ∙ list.1))
    ∙ of_version list.0 acts events list.2 few (members v.0 (object others)) j v.2 named)

-- the same of objects neither of which has a schedule
pub job_without_schedule : (others ms : ObjectMembers) → SameOfJob others ms → get_member the_schedule others ≡ None → get_member the_schedule ms ≡ None → job_of_data (object others) ≡ job_of_data (object ms)
job_without_schedule others ms same none no_schedule =
    ap (λ o. o or fault.Version >>= (λ v. members v (object others) or fault.Shape >>= job_of_members)) (same_version others ms same none)
    ∙ over (version_of (get (codes "version") (object ms)) or fault.Version)
  where
    over : (v : Result Version JobFault) → (v >>= (λ its. members its (object others) or fault.Shape >>= job_of_members)) ≡ (v >>= (λ its. members its (object ms) or fault.Shape >>= job_of_members))
    over (Ok its) = ap (λ o. o or fault.Shape >>= job_of_members) (same_members others ms same none its no_schedule)
    over (Err refusal) = refl
