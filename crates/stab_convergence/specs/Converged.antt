-- A node has come back after faults: it has all that was published since, and so has each node
-- above it.
-- Source: this project's own.
use Rattle.std.specs.Prelude.{◌≡◌, ℕ, List, Some}
use Rattle.stab_treecore.specs.Moment.{Moment, garbage_since, missing_since, published_since}
use Rattle.stab_treecore.specs.Moment.{strays_since}
use Rattle.stab_treecore.specs.Since.{gained, moment}
use Rattle.stab_rounds.specs.TreeRounds.{IsHandedOn}
use Rattle.stab_tree.specs.Nodes.{parent_at}
use Rattle.stab_tree.specs.Steps.{Reaches}
use Rattle.stab_treecore.specs.TreeLaw.{CompleteLaw}
use Rattle.stab_treecore.specs.WholeTree.{WholeTree}

-- the complete law of a node that gained this list since the moment
abbrev pub CompleteSince : Moment → (ℕ → List ℕ) → ℕ → Type 0
CompleteSince m gained node =
    CompleteLaw (strays_since m node) (missing_since m node) (garbage_since m node)
    (published_since m gained node) (gained node)

-- each link of the node's path has handed on all that its sender's node has
abbrev pub IsPathHandedOn : WholeTree → ℕ → Type 0
IsPathHandedOn t node =
    (w parent : ℕ) → Reaches t.parents node w → parent_at t.parents w ≡ Some parent
    → IsHandedOn t w parent

-- At t the node has come back, counted from s.
pub record HasConverged (s t : WholeTree) (node : ℕ) : Type 0 where
  -- it has all that was published since, but for some of the first
  pub complete : CompleteSince (moment s) (gained s t) node
  -- and so it was with each node above it
  pub handed_on : IsPathHandedOn t node
