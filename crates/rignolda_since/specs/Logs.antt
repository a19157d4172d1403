-- Logs: what each node of a tree received since a moment, one list of items for each node in file
-- order; and for each node a place in the published items, where its count begins.
-- Example: The tree r, a, b and the items 10, 11, 12, of which 10 was published before the moment
-- and acknowledged. The members `received` with the value `[[], [11], [12]]` and `from` with the
-- value `[0, 1, 1]` say that a received 11, that b received 12, and that both are judged by 11, 12.
-- With two lists it is a wrong number of lists, with no place in `from` a wrong number of places,
-- and with the place 4 it is one past the end of the items.
-- Source: this project's own.
use Rattle.std.specs.List.{list_all}
use Rattle.std.specs.Prelude.{ℕ, ◌==◌, nat_le, length, List, [], slice_index_or, if◌then◌else◌}
use Rattle.std.specs.Prelude.{Bool, true, Result, Ok, Err, Option, codes, is_some, option_and_then}
use Rattle.serde_json.specs.Data.{Data}
use Rattle.serde_json.specs.Find.{get}
use Rattle.stab_json.specs.Checks.{◌>>=◌, ◌or◌}
use Rattle.stab_json.specs.Values.{item_number, list_of, list_or_absent}
use Rattle.stab_job.specs.Parts.{SameBeside}
use Rattle.stab_tree.specs.Nodes.{Nodes}
use Rattle.rignolda_since.specs.declared.logs.LogsFault.{LogsFault}
use Rattle.rignolda_since.specs.declared.logs.LogsFault.TheVariants as fault

pub record LogsValue : Type 0 where
  pub received : List (List ℕ)
  -- the places where the counts begin; where there are none, each begins with the first item
  pub from : List ℕ

-- what a node received
abbrev pub received_at : LogsValue → ℕ → List ℕ
received_at logs node = slice_index_or logs.received node []

-- where the count of a node begins
abbrev pub from_at : LogsValue → ℕ → ℕ
from_at logs node = slice_index_or logs.from node 0

-- the member with the lists, and what it means
abbrev pub the_lists : List ℕ
the_lists = codes "received"

abbrev pub received_meaning : Data → Option (List (List ℕ))
received_meaning = list_of (list_of item_number)

-- the lists and the places that a value has, and whether it has a member with places
abbrev pub received_of : Data → Option (List (List ℕ))
received_of d = option_and_then received_meaning (get the_lists d)

abbrev pub from_of : Data → Option (List ℕ)
from_of d = list_or_absent item_number (get (codes "from") d)

abbrev pub has_places : Data → Bool
has_places d = is_some (get (codes "from") d)

-- these logs, where there is a list for each node, and a place for each or no member with places;
-- each place is among those of `count` items, or just behind them
abbrev pub fitting : Nodes → ℕ → Bool → LogsValue → Result LogsValue LogsFault
fitting t count with_places logs =
    if length logs.received == length t.parents
    then (if (if with_places then length logs.from == length t.parents else true)
    then (if list_all (λ place. nat_le place count) logs.from then Ok logs else Err fault.Place)
    else Err fault.Places)
    else Err fault.Lists

-- the logs that a value means, where so many items are published
abbrev pub logs : Nodes → ℕ → Data → Result LogsValue LogsFault
logs t count d = do
  received ← received_of d or fault.Shape
  from ← from_of d or fault.Shape
  fitting t count (has_places d) (record { received = received; from = from })

-- a value has the members of a job, but for the lists where they were read
abbrev pub HasLogs : Data → Data → Option (List (List ℕ)) → Type 0
HasLogs d others received = SameBeside the_lists received_meaning d others received
