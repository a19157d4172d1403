-- Backlogs: what the parent of each node had for it at a moment, one list of items for each node in
-- file order; that of the root is empty.
-- Example: For the chain r, a, b the value `[[], [8], [7]]` says that r had 8 for a, and a had 7
-- for b. With two lists it is refused as a wrong number, and `[[1], [], []]` for the root's.
-- Source: this project's own.
use Rattle.std.specs.Prelude.{ℕ, ◌==◌, length, List, [], slice_index_or, if◌then◌else◌, Result, Ok}
use Rattle.std.specs.Prelude.{Err}
use Rattle.serde_json.specs.Data.{Data}
use Rattle.stab_json.specs.Checks.{◌>>=◌, ◌or◌}
use Rattle.stab_json.specs.Values.{item_number, list_of}
use Rattle.stab_tree.specs.Nodes.{Nodes, root_of}
use Rattle.rignolda_since.specs.declared.backlogs.BacklogFault.{BacklogFault}
use Rattle.rignolda_since.specs.declared.backlogs.BacklogFault.TheVariants as fault

-- what the parent of a node had for it
abbrev pub backlog_at : List (List ℕ) → ℕ → List ℕ
backlog_at lists node = slice_index_or lists node []

-- these lists, where there is one for each node and the root's is empty
abbrev pub fitting : Nodes → List (List ℕ) → Result (List (List ℕ)) BacklogFault
fitting t lists =
    if length lists == length t.parents
    then (if length (backlog_at lists (root_of t.parents)) == 0 then Ok lists else Err fault.Root)
    else Err fault.Count

-- the backlogs that a value means
abbrev pub backlogs : Nodes → Data → Result (List (List ℕ)) BacklogFault
backlogs t d = do
  lists ← list_of (list_of item_number) d or fault.Shape
  fitting t lists
