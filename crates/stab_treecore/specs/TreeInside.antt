-- What the fields of a whole tree of the code keep.
-- Source: this project's own.
use Rattle.std.specs.Prelude.{◌≡◌, ℕ, ◌<◌, List, [], ◌++◌, length, map, Some, None, is_some}
use Rattle.std.specs.Prelude.{slice_index_or}
use Rattle.stab_core.specs.Link.{LinkValue}
use Rattle.stab_tree.specs.Nodes.{parent_at, root_of}
use Rattle.stab_tree.specs.NodeOpenings.{opening_at}
use Rattle.stab_treecore.specs.WholeTree.{WholeTree, link_into}

-- each node but one, the root, has a parent and a link, and each parent is a node; each node has an
-- opening, and beside each node with a link there is what it received
pub record IsSound (t : WholeTree) (lists : List (List ℕ)) : Type 0 where
  pub linked : map is_some t.links ≡ map is_some t.parents
  pub known_parents : (node parent : ℕ) → parent_at t.parents node ≡ Some parent
      → parent < length t.parents
  pub root_has_none : parent_at t.parents (root_of t.parents) ≡ None
  pub one_root : (node : ℕ) → node < length t.parents → parent_at t.parents node ≡ None
      → node ≡ root_of t.parents
  pub one_opening_each : length t.openings ≡ length t.links
  pub one_list_each : length lists ≡ length t.links
  pub listed : (node : ℕ) (link : LinkValue) → link_into t node ≡ Some link
      → slice_index_or lists node [] ≡ opening_at t.openings node ++ link.state.delivered
