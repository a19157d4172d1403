-- A stored tree: its nodes, and beside them their depths and the root.
use Rattle.std.specs.Prelude.{◌≡◌, ℕ, ◌<◌, List, length, Option, Some, slice_index}
use Rattle.stab_tree.specs.IsTree.{IsTree}
use Rattle.stab_tree.specs.Nodes.{Nodes, root_of}
use Rattle.stab_tree.specs.Steps.{depth_at}

-- the depths of nodes with these parents
pub record AreDepths (parents : List (Option ℕ)) (depths : List ℕ) : Type 0 where
  pub one_each : length depths ≡ length parents
  pub depth_is : (w : ℕ) → w < length parents
      → depth_at parents w ≡ Some (slice_index depths w)

pub record IsStored (t : Nodes) (depths : List ℕ) (root : ℕ) : Type 0 where
  pub tree : IsTree t
  pub depths_are : AreDepths t.parents depths
  pub root_is : root ≡ root_of t.parents
