-- Link entries: what a JSON value says of the parameters of one link.
-- Source: this project's profile.
use Rattle.std.specs.Prelude.{codes, Option, Some, None}
use Rattle.serde_json.specs.Data.{Data, null, object}
use Rattle.serde_json.specs.Find.{get}
use Rattle.stab_json.specs.Values.{◌>>=◌, most_u16, capped}
use Rattle.stab_job.specs.declared.link_entry.LinkEntry.{LinkEntry}
use Rattle.stab_job.specs.declared.link_entry.LinkEntry.TheVariants.{OfJob, Own}

-- the two numbers of an object, neither of them checked: one over 16 bits is the largest of these
abbrev pub own_numbers : Data → Option LinkEntry
own_numbers d = do
  its_capacity ← get (codes "capacity") d >>= capped most_u16
  its_labels ← get (codes "labels") d >>= capped most_u16
  Some (Own its_capacity its_labels)

-- what an entry says; null says that the link has the job's own parameters
abbrev pub link_entry : Data → Option LinkEntry
link_entry null = Some OfJob
link_entry (object ms) = own_numbers (object ms)
link_entry _ = None
