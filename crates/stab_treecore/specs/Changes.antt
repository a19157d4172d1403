-- What happens to a whole tree: acts on its links, items that the root publishes, and faults, at
-- any moment and in any order.
-- Nothing is asked of a fault but that it fits: what strikes a link is within its capacity.
-- Source: this project's own.
use Rattle.std.specs.Prelude.{◌≡◌, List, [], ◌∷◌, Some}
pub use Rattle.stab_treecore.specs.declared.change.Change.{Change}
pub use Rattle.stab_treecore.specs.declared.change.Change.TheVariants.{Act, Publish, Strike, Restart}
use Rattle.stab_core.specs.Link.{LinkValue}
use Rattle.stab_core.specs.Replay.{IsLawful}
use Rattle.stab_treecore.specs.Faults.{published_more, struck_tree, restarted_tree}
use Rattle.stab_treecore.specs.TreeStep.{tree_step}
use Rattle.stab_treecore.specs.WholeTree.{WholeTree, link_into}

-- the whole tree after a change
abbrev pub change_step : WholeTree → Change → WholeTree
change_step t (Act e) = tree_step t e
change_step t (Publish items) = published_more t items
change_step t (Strike child start) = struck_tree t child start
change_step t (Restart node list) = restarted_tree t node list

-- the whole tree after these changes, in their order
abbrev pub changes_replay : WholeTree → List Change → WholeTree
changes_replay t [] = t
changes_replay t (change ∷ changes) = changes_replay (change_step t change) changes

-- what strikes a link fits its capacity
abbrev pub FitsTree : WholeTree → Change → Type 0
FitsTree t (Strike child start) =
    (link : LinkValue) → link_into t child ≡ Some link → IsLawful link.params start
FitsTree t _ = Unit {0}

-- and each of these does so when it comes
abbrev pub Fit : WholeTree → List Change → Type 0
Fit t [] = Unit {0}
Fit t (change ∷ changes) = FitsTree t change × Fit (change_step t change) changes
