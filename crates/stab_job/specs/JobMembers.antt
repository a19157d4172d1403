-- The members of a job, each of its stated shape; the content of the tree and the entries of the
-- schedule are not looked at.
-- Source: this project's profile.
use Rattle.std.specs.Prelude.{ℕ, codes, List, Option, Some, None, option_map}
use Rattle.serde_json.specs.Data.{Data, Items, no_items}
use Rattle.serde_json.specs.Find.{get, as_array}
use Rattle.stab_core.specs.declared.start.Start.{Start}
use Rattle.stab_json.specs.Values.{◌>>=◌, most_u16, whole, capped, item_number, list_of}
use Rattle.stab_script.specs.declared.script_entry.ScriptEntry.{ScriptEntry}
use Rattle.stab_script.specs.ScriptEntries.{script_entry}
use Rattle.stab_script.specs.Starts.{start}
use Rattle.stab_job.specs.declared.link_entry.LinkEntry.{LinkEntry}
use Rattle.stab_job.specs.LinkEntries.{link_entry}
use Rattle.stab_job.specs.JobOpenings.{hold_of, lists_given}
use Rattle.stab_job.specs.declared.version.Version.{Version}

pub record Members : Type 0 where
  pub capacity : ℕ
  pub labels : ℕ
  pub tree : Data
  pub items : List ℕ
  pub starts : Option (List Start)
  pub scripts : Option (List ScriptEntry)
  pub turns : ℕ
  pub schedule : Items
  pub links : Option (List LinkEntry)
  pub hold : ℕ
  pub openings : Option (List (List ℕ))

-- the turns of a job that names none
abbrev pub default_turns : ℕ
default_turns = 100000

-- what a member means, if there is such a member; a job may be without it
abbrev pub if_there : {X : Type 0} → (Data → Option X) → Option Data → Option (Option X)
if_there meaning None = Some None
if_there meaning (Some d) = option_map Some (meaning d)

-- a whole number, or the default where no turns are named
abbrev pub turns_of : Option Data → Option ℕ
turns_of None = Some default_turns
turns_of (Some d) = whole d

-- the entries of a list, or none where there is no list
abbrev pub entries_of : Option Data → Option Items
entries_of None = Some no_items
entries_of (Some d) = as_array d

abbrev pub members : Version → Data → Option Members
members version d = do
  its_capacity ← get (codes "capacity") d >>= capped most_u16
  its_labels ← get (codes "labels") d >>= capped most_u16
  its_tree ← get (codes "tree") d
  its_turns ← turns_of (get (codes "turns") d)
  its_schedule ← entries_of (get (codes "schedule") d)
  its_items ← get (codes "items") d >>= list_of item_number
  its_starts ← if_there (list_of start) (get (codes "starts") d)
  its_scripts ← if_there (list_of script_entry) (get (codes "scripts") d)
  its_links ← if_there (list_of link_entry) (get (codes "links") d)
  its_hold ← hold_of version d
  its_openings ← lists_given version d
  Some (record {
    capacity = its_capacity;
    labels = its_labels;
    tree = its_tree;
    items = its_items;
    starts = its_starts;
    scripts = its_scripts;
    turns = its_turns;
    schedule = its_schedule;
    links = its_links;
    hold = its_hold;
    openings = its_openings;
  })
