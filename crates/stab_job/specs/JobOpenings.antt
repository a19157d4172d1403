-- What a job says of the openings of its nodes: nothing in version 1; in version 2 how many items
-- an opening has at most, and the lists themselves, or none, which means empty ones.
-- Example: Nodes r, a, b in a chain. By version 2, `"h": 2` and `[[], [50, 51], []]` node a begins
-- with 50, 51; by the same members in version 1 no node begins with anything. Without `openings`
-- there are three empty lists, which are openings for every `h` up to 64; 65 is `HoldOutOfRange`,
-- and no `h` at all is `Shape`. `[[], [50, 51]]` are two lists for three nodes, so `OpeningCount`.
-- In `[[1], [], []]` the root has an item and in `[[], [], [1]]` the leaf, so `OpeningPlace`. Three
-- items at a are `OpeningTooLong`. With `"links": []` beside `"h": 65` the links are checked first,
-- so `LinkCount`.
-- Source: this project's profile.
use Rattle.std.specs.Prelude.{ℕ, codes, List, [], length, replicate, ◌==◌, if◌then◌else◌, Option}
use Rattle.std.specs.Prelude.{Some, None}
use Rattle.std.specs.Prelude.{Result, Ok, option_map}
use Rattle.serde_json.specs.Data.{Data}
use Rattle.serde_json.specs.Find.{get}
use Rattle.stab_json.specs.Checks.{◌>>◌}
use Rattle.stab_json.specs.Values.{◌>>=◌, most_u16, whole, capped, item_number, list_of}
use Rattle.stab_tree.specs.Nodes.{Nodes}
use Rattle.stab_tree.specs.NodeOpenings.{OpeningsValue, openings_fault}
use Rattle.stab_job.specs.declared.fault.JobFault.{JobFault}
use Rattle.stab_job.specs.declared.fault.JobFault.TheVariants as fault
use Rattle.stab_job.specs.declared.version.Version.{Version}
use Rattle.stab_job.specs.declared.version.Version.TheVariants.{First, Second}

-- the version that a whole number names, if there is one
abbrev pub version_numbered : ℕ → Option Version
version_numbered n =
    if n == 1 then Some First else if n == 2 then Some Second else None

-- a job that names no version is of the first
abbrev pub version_of : Option Data → Option Version
version_of None = Some First
version_of (Some d) = whole d >>= version_numbered

-- how many items an opening has at most
abbrev pub hold_of : Version → Data → Option ℕ
hold_of First d = Some 0
hold_of Second d = get (codes "h") d >>= capped most_u16

-- what a member means, if there is such a member of lists of items
abbrev pub lists_if_there : Option Data → Option (Option (List (List ℕ)))
lists_if_there None = Some None
lists_if_there (Some d) = option_map Some (list_of (list_of item_number) d)

-- the lists that are given
abbrev pub lists_given : Version → Data → Option (Option (List (List ℕ)))
lists_given First d = Some None
lists_given Second d = lists_if_there (get (codes "openings") d)

-- the lists of that many nodes, which are empty where none are given
abbrev pub lists_of : ℕ → Option (List (List ℕ)) → List (List ℕ)
lists_of nodes None = replicate nodes []
lists_of nodes (Some lists) = lists

-- the openings of these nodes, or the first check that they fail
abbrev pub openings_of : Nodes → ℕ → Option (List (List ℕ)) → Result OpeningsValue JobFault
openings_of t hold given = do
  option_map fault.Opening (openings_fault t.parents hold (lists_of (length t.parents) given))
  Ok (record { hold = hold; lists = lists_of (length t.parents) given })
