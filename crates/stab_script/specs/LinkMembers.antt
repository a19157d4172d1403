-- Link members: the members of a link job, each of its stated shape; the entries of `events` are
-- not looked at.
-- Source: this project's profile.
use Rattle.std.specs.Prelude.{ℕ, codes, Option, Some}
use Rattle.stab_core.specs.declared.start.Start.{Start}
use Rattle.serde_json.specs.Data.{Data, Items}
use Rattle.serde_json.specs.Find.{get, as_array}
use Rattle.serde_json.specs.View.{items_view}
use Rattle.stab_json.specs.Values.{◌>>=◌, most_u16, capped}
use Rattle.stab_script.specs.declared.link_job.Members.{Members}
use Rattle.stab_script.specs.Starts.{start}

pub record LinkMembers : Type 0 where
  pub capacity : ℕ
  pub labels : ℕ
  pub start : Start
  pub events : Items

-- what the members of a value mean
abbrev pub members : Data → Option LinkMembers
members d = do
  its_capacity ← get (codes "capacity") d >>= capped most_u16
  its_labels ← get (codes "labels") d >>= capped most_u16
  its_start ← get (codes "start") d >>= start
  its_events ← get (codes "events") d >>= as_array
  Some (record {
    capacity = its_capacity;
    labels = its_labels;
    start = its_start;
    events = its_events;
  })

-- what the members that the code has read are
abbrev pub members_read : Members → LinkMembers
members_read m = record {
  capacity = m.capacity;
  labels = m.labels;
  start = m.start;
  events = items_view m.events.items;
}
