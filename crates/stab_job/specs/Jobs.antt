-- Jobs: what the bytes of a job mean, or the first check, in the stated order, that they fail.
-- Example: `{"version": 3}`: the version is neither the whole number 1 nor 2, so `Version`; that
-- all members are missing is not looked at. The lone root with labels 3 and an empty tree:
-- `fault_of 1 3` comes before the tree, so `Params LabelsTooFew`. A schedule of `["x", "offer"]`
-- and `["r", "jump"]`: the second entry is no act, so `Event`; that no node is called x is not
-- looked at.
-- Source: this project's profile. Each line of the lists below is a check beside its fault: `job`
-- has the first, `job_of_data` the two after it, `job_of_members` the next two, `job_on_tree` those
-- that follow once there is a tree, `job_of_scripts` the one after the scripts, `schedule` the two
-- after that, `link_params` the next two, and `openings_of` those of the openings.
use Rattle.std.specs.Prelude.{ℕ, codes, ◌≡◌, List, length, ◌||◌, Bool, false, nat_lt, option_map}
use Rattle.std.specs.Prelude.{Result, Ok}
use Rattle.serde_json.specs.Data.{Data, Items}
use Rattle.serde_json.specs.Find.{get}
use Rattle.stab_frames.specs.Parameters.{Parameters, fault_of}
use Rattle.stab_json.specs.Checks.{◌>>=◌, ◌>>◌, ◌or◌, ◌when◌, ◌refused_as◌}
use Rattle.stab_json.specs.Values.{value_of, count, entries}
use Rattle.stab_acts.specs.Scripts.{Acts}
use Rattle.stab_tree.specs.Nodes.{Nodes}
use Rattle.stab_tree.specs.Read.{tree_of}
use Rattle.stab_treecore.specs.declared.event.TreeEvent.{TreeEvent}
use Rattle.stab_script.specs.LinkJobs.{most_events}
use Rattle.stab_job.specs.declared.fault.JobFault.{JobFault}
use Rattle.stab_job.specs.declared.fault.JobFault.TheVariants as fault
use Rattle.stab_job.specs.JobLinks.{are_miscounted, starts_of, scripts_of}
use Rattle.stab_job.specs.JobMembers.{Members, members}
use Rattle.stab_job.specs.JobOpenings.{openings_of, version_of}
use Rattle.stab_job.specs.JobValues.{JobValue, links, most_items, most_turns}
use Rattle.stab_job.specs.LinkParams.{link_params}
use Rattle.stab_job.specs.ScheduleEntries.{named_act, events_of}

-- the events of a schedule over the nodes of these names: every entry is an act, and only then does
-- every act name a node
abbrev pub schedule : List (List ℕ) → Items → Result (List TreeEvent) JobFault
schedule names its_entries = do
  acts ← entries named_act its_entries or fault.Event
  events_of names acts or fault.UnknownNode

-- the turns are none, or too many
abbrev pub are_out_of_range : ℕ → Bool
are_out_of_range turns = nat_lt turns 1 || nat_lt most_turns turns

-- the parameters that these members have for every link that says none of its own
abbrev pub params_of_job : Members → Parameters
params_of_job m = record { capacity = m.capacity; labels = m.labels }

-- the job of these members on their tree with these scripts
abbrev pub job_of_scripts : Nodes → Members → List Acts → Result JobValue JobFault
job_of_scripts t m scripts = do
  fault.TurnsOutOfRange when are_out_of_range m.turns
  events ← schedule t.names m.schedule
  params ← link_params t (params_of_job m) m.links
  openings ← openings_of t m.hold m.openings
  Ok (record {
    params = params;
    tree = t;
    items = m.items;
    starts = starts_of (links t) m.starts;
    scripts = scripts;
    turns = m.turns;
    schedule = events;
    openings = openings;
  })

-- the job of these members on their tree
abbrev pub job_on_tree : Nodes → Members → Result JobValue JobFault
job_on_tree t m = do
  fault.TooManyItems when nat_lt most_items (length m.items)
  fault.TooManyEvents when nat_lt most_events (count m.schedule)
  fault.StartCount when are_miscounted (links t) m.starts
  fault.ScriptCount when are_miscounted (links t) m.scripts
  scripts ← scripts_of (links t) m.scripts refused_as fault.Script
  job_of_scripts t m scripts

-- the job of these members
abbrev pub job_of_members : Members → Result JobValue JobFault
job_of_members m = do
  option_map fault.Params (fault_of m.capacity m.labels)
  t ← tree_of m.tree refused_as fault.Tree
  job_on_tree t m

-- the job of this value
abbrev pub job_of_data : Data → Result JobValue JobFault
job_of_data value = do
  version ← version_of (get (codes "version") value) or fault.Version
  m ← members version value or fault.Shape
  job_of_members m

-- the job of these bytes
abbrev pub job : List ℕ → Result JobValue JobFault
job bytes = do
  value ← value_of bytes or fault.Json
  job_of_data value

-- the numbers of entries of these members are right over that many links
pub record AreCounted (links : ℕ) (m : Members) : Type 0 where
  pub few_items : nat_lt most_items (length m.items) ≡ false
  pub few_events : nat_lt most_events (count m.schedule) ≡ false
  pub one_start_each : are_miscounted links m.starts ≡ false
  pub one_script_each : are_miscounted links m.scripts ≡ false
