-- The tree that a JSON value describes, or the fault of the first check that fails. Each check is
-- made over the whole list before the next (this project's profile).
-- Example: Two nodes that are both called r: 2 is at most 64, both names are lawful, and one name
-- occurs twice, so `SameName`; no parent is looked at.
use Rattle.std.specs.Prelude.{◌≡◌, ℕ, List, length, not, true, false, ◌==◌, nat_lt, Option, Some}
use Rattle.std.specs.Prelude.{Result, Ok}
use Rattle.std.specs.List.{list_all}
use Rattle.serde_json.specs.Data.{Data}
use Rattle.stab_json.specs.Checks.{◌>>=◌, ◌>>◌, ◌or◌, ◌when◌}
use Rattle.stab_tree.specs.declared.fault.TreeFault.{TreeFault}
use Rattle.stab_tree.specs.declared.fault.TreeFault.TheVariants.{Shape, TooManyNodes, BadName}
use Rattle.stab_tree.specs.declared.fault.TreeFault.TheVariants.{SameName, UnknownParent, NoRoot}
use Rattle.stab_tree.specs.declared.fault.TreeFault.TheVariants.{TwoRoots, Cycle}
use Rattle.stab_tree.specs.Entry.{Entry, entries_of, names_of}
use Rattle.stab_tree.specs.Name.{is_name, has_same_name}
use Rattle.stab_tree.specs.Nodes.{Nodes, most_nodes}
use Rattle.stab_tree.specs.Parents.{parents_of, root_count, have_depths}

unfoldable pub tree_of : Data → Result Nodes TreeFault
tree_of d = do
  entries ← entries_of d or Shape
  TooManyNodes when nat_lt most_nodes (length entries)
  let names = names_of entries
  BadName when not (list_all is_name names)
  SameName when has_same_name names
  parents ← parents_of names entries or UnknownParent
  NoRoot when root_count parents == 0
  TwoRoots when nat_lt 1 (root_count parents)
  Cycle when not (have_depths parents)
  Ok (record { names = names; parents = parents })

-- these entries are not too many, and each has a lawful name of its own
pub record AreNamed (entries : List Entry) : Type 0 where
  pub few : nat_lt most_nodes (length entries) ≡ false
  pub lawful : list_all is_name (names_of entries) ≡ true
  pub own : has_same_name (names_of entries) ≡ false

-- the parents that these entries name among these names, where one alone has none
pub record AreParents (names : List (List ℕ)) (entries : List Entry) (parents : List (Option ℕ))
    : Type 0 where
  pub found : parents_of names entries ≡ Some parents
  pub one_root : root_count parents ≡ 1
