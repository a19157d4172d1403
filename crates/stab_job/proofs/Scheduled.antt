-- The members of a job with its schedule, by those without it.
use Rattle.std.proofs.Common.{◌≡◌, ◌≢◌, ℕ, codes, List, Option, Some, None, option_map, refl, ap, arith}
use Rattle.serde_json.specs.Data.{Data, Items, no_items, Members as ObjectMembers, object}
use Rattle.serde_json.specs.Find.{get, get_member}
use Rattle.stab_core.specs.declared.start.Start.{Start}
use Rattle.stab_json.specs.Values.{◌>>=◌, most_u16, capped, item_number, list_of}
use Rattle.stab_script.specs.declared.script_entry.ScriptEntry.{ScriptEntry}
use Rattle.stab_script.specs.ScriptEntries.{script_entry}
use Rattle.stab_script.specs.Starts.{start}
use Rattle.stab_job.specs.declared.link_entry.LinkEntry.{LinkEntry}
use Rattle.stab_job.specs.LinkEntries.{link_entry}
use Rattle.stab_job.specs.JobMembers.{Members, members, if_there, turns_of, entries_of}
use Rattle.stab_job.specs.JobOpenings.{hold_of, lists_given, version_of}
use Rattle.stab_job.specs.Parts.{the_schedule, SameOfJob}
use Rattle.stab_job.specs.declared.version.Version.{Version}
use Rattle.stab_job.specs.declared.version.Version.TheVariants.{First, Second}

-- members with another schedule
abbrev pub scheduled : Items → Members → Members
scheduled ds m = record {
  capacity = m.capacity;
  labels = m.labels;
  tree = m.tree;
  items = m.items;
  starts = m.starts;
  scripts = m.scripts;
  turns = m.turns;
  schedule = ds;
  links = m.links;
  hold = m.hold;
  openings = m.openings;
}

-- the members of these parts, if each is there
abbrev gathered : Option ℕ → Option ℕ → Option Data → Option ℕ → Option Items → Option (List ℕ) → Option (Option (List Start)) → Option (Option (List ScriptEntry)) → Option (Option (List LinkEntry)) → Option ℕ
    → Option (Option (List (List ℕ))) → Option Members
gathered capacity labels tree turns schedule items starts scripts links hold openings = do
  its_capacity ← capacity
  its_labels ← labels
  its_tree ← tree
  its_turns ← turns
  its_schedule ← schedule
  its_items ← items
  its_starts ← starts
  its_scripts ← scripts
  its_links ← links
  its_hold ← hold
  its_openings ← openings
  Some (record {
    capacity = its_capacity;
    labels = its_labels;
    tree = its_tree;
    items = its_items;
    starts = its_starts;
    scripts = its_scripts;
    turns = its_turns;
    schedule = its_schedule;
    links = its_links;
    hold = its_hold;
    openings = its_openings;
  })

-- another schedule changes the schedule alone
with_schedule : (ds : Items) (c l : Option ℕ) (t : Option Data) (n : Option ℕ) (i : Option (List ℕ)) (ss : Option (Option (List Start))) (cs : Option (Option (List ScriptEntry))) (ls : Option (Option (List LinkEntry)))
    (h : Option ℕ) (os : Option (Option (List (List ℕ)))) → gathered c l t n (Some ds) i ss cs ls h os ≡ option_map (scheduled ds) (gathered c l t n (Some no_items) i ss cs ls h os)
with_schedule ds None l t n i ss cs ls h os = refl
with_schedule ds (Some c) None t n i ss cs ls h os = refl
with_schedule ds (Some c) (Some l) None n i ss cs ls h os = refl
with_schedule ds (Some c) (Some l) (Some t) None i ss cs ls h os = refl
with_schedule ds (Some c) (Some l) (Some t) (Some n) None ss cs ls h os = refl
with_schedule ds (Some c) (Some l) (Some t) (Some n) (Some i) None cs ls h os = refl
with_schedule ds (Some c) (Some l) (Some t) (Some n) (Some i) (Some ss) None ls h os = refl
with_schedule ds (Some c) (Some l) (Some t) (Some n) (Some i) (Some ss) (Some cs) None h os = refl
with_schedule ds (Some c) (Some l) (Some t) (Some n) (Some i) (Some ss) (Some cs) (Some ls) None os = refl
with_schedule ds (Some c) (Some l) (Some t) (Some n) (Some i) (Some ss) (Some cs) (Some ls) (Some h) None = refl
with_schedule ds (Some c) (Some l) (Some t) (Some n) (Some i) (Some ss) (Some cs) (Some ls) (Some h) (Some os) = refl

-- objects that differ in the schedule and in what is no member of a job, and one of which is without a schedule
module _ (others ms : ObjectMembers) (same : SameOfJob others ms) (none : get_member the_schedule others ≡ None) where
  pub same_version : version_of (get (codes "version") (object others)) ≡ version_of (get (codes "version") (object ms))
  same_version = ap version_of same.0

  same_hold : (version : Version) → hold_of version (object others) ≡ hold_of version (object ms)
  same_hold First = refl
  same_hold Second = ap (λ o. o >>= capped most_u16) same.9

  same_lists : (version : Version) → lists_given version (object others) ≡ lists_given version (object ms)
  same_lists First = refl
  same_lists Second = ap (λ o. if_there (list_of (list_of item_number)) o) same.10

  -- the members with the schedule
  pub with_its_schedule : (version : Version) (ds : Items) → entries_of (get_member the_schedule ms) ≡ Some ds → members version (object ms) ≡ option_map (scheduled ds) (members version (object others))
  with_its_schedule version ds is =
      rw (
        same.1,
        same.2,
        same.3,
        same.4,
        same.5,
        same.6,
        same.7,
        same.8,
        same_hold version,
        same_lists version,
        none,
        is,
      )
      (with_schedule ds (get_member (codes "capacity") ms >>= capped most_u16) (get_member (codes "labels") ms >>= capped most_u16) (get_member (codes "tree") ms) (turns_of (get_member (codes "turns") ms))
      (get_member (codes "items") ms >>= list_of item_number) (if_there (list_of start) (get_member (codes "starts") ms)) (if_there (list_of script_entry) (get_member (codes "scripts") ms))
      (if_there (list_of link_entry) (get_member (codes "links") ms)) (hold_of version (object ms)) (lists_given version (object ms)))

  -- where neither has a schedule, they are the same job
  pub same_members : (version : Version) → get_member the_schedule ms ≡ None → members version (object others) ≡ members version (object ms)
  same_members version no_schedule =
      rw (
        same.1,
        same.2,
        same.3,
        same.4,
        same.5,
        same.6,
        same.7,
        same.8,
        same_hold version,
        same_lists version,
        none,
        no_schedule,
      )
      refl
