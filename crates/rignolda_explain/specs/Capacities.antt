-- The capacity of a link as a job says it, whether a link may have it or not.
-- Example: By the capacity 1 and the links `[null, {"capacity": 2, "labels": 6}]` the first link
-- has the capacity 1 and the second one 2. A third entry is missing, so a link there has 1.
-- Source: this project's profile, over the values of `serde_json`.
use Rattle.std.specs.Prelude.{ℕ, codes, Option, Some, None}
use Rattle.serde_json.specs.Data.{Data, object}
use Rattle.serde_json.specs.Find.{at, get}
use Rattle.stab_json.specs.Values.{◌>>=◌, capped, most_u16}

-- the capacity that an object says; one over 16 bits is the largest of these
abbrev pub own_capacity : Data → Option ℕ
own_capacity d = get (codes "capacity") d >>= capped most_u16

-- that of a link with this entry: the entry's where it is an object, and else the job's
abbrev pub entry_capacity : Data → Option Data → Option ℕ
entry_capacity job (Some (object ms)) = own_capacity (object ms)
entry_capacity job _ = own_capacity job

-- that of the link at a place
abbrev pub capacity_at : Data → ℕ → Option ℕ
capacity_at job place = entry_capacity job (get (codes "links") job >>= at place)
