-- A node has come back, whatever was published meanwhile: of what was published before a moment it
-- has all, but for some of the first M, and what was published later stands behind.
-- Example: With M = 3 let 0 to 9 be published before m, and 10, 11 after it. The list 98, 3, 4, 5,
-- 6, 7, 8, 9, 10 is such a list: 98, 3 to 9 is the part before m, and 10 the part after it. Without
-- the 3 or the 9 it is none.
-- Source: this project's own.
use Rattle.std.specs.Prelude.{◌≡◌, ◌≤◌, ℕ, ◌+◌, ◌*◌, List, [], ◌++◌, length, Some}
use mathlib.Core.List.{IsPrefix}
use Rattle.stab_convergence.specs.Converged.{IsPathHandedOn}
use Rattle.stab_convergence.specs.Exact.{IsPathClean}
use Rattle.stab_treecore.specs.Moment.{fewest_since, garbage_since, missing_since, published_since}
use Rattle.stab_treecore.specs.Moment.{strays_since}
use Rattle.stab_treecore.specs.Since.{capacity_at, gained, moment}
use Rattle.stab_tree.specs.Nodes.{parent_at, root_of}
use Rattle.stab_tree.specs.Steps.{Reaches}
use Rattle.stab_treecore.specs.Paths.{path_sum}
use Rattle.stab_treecore.specs.SharperLaw.{SharperCompleteLaw}
use Rattle.stab_treecore.specs.TreeLaw.{CompleteLaw}
use Rattle.stab_treecore.specs.WholeTree.{WholeTree}

-- so much was published for the node from s to m that its path is clean once it has all that: for
-- each link 2c + 2 items more than may be missing at the link's upper node
abbrev pub IsEnough : WholeTree → WholeTree → ℕ → Type 0
IsEnough s m node =
    (w parent : ℕ) → Reaches s.parents node w → parent_at s.parents w ≡ Some parent
    → fewest_since (moment s) parent + 2 * capacity_at s w + 2
    ≤ length (published_since (moment s) (gained s m) node)

-- what the node received from s to t, where m is between
pub record HasAllBefore (s m t : WholeTree) (node : ℕ) : Type 0 where
  pub front : List ℕ
  pub later : List ℕ
  -- is a front, and what came later;
  pub parts : gained s t node ≡ front ++ later
  -- the front is what was published from s to m, but for few strays and some of the first items
  pub complete : CompleteLaw (strays_since (moment s) node) (missing_since (moment s) node)
      (garbage_since (moment s) node) (published_since (moment s) (gained s m) node) front
  -- and of these no more are missing than the sharper tree law allows;
  pub sharper : SharperCompleteLaw (strays_since (moment s) node)
      (path_sum s.parents (λ w. capacity_at s w + 1) node) (fewest_since (moment s) node)
      (garbage_since (moment s) node) (published_since (moment s) (gained s m) node) front
  -- if these were enough, what came later is exactly what was published after m, as far as it has
  -- come,
  pub exact : IsEnough s m node → IsPrefix later (gained m t (root_of t.parents))
  -- and all of it, once each link of the path has handed it on;
  pub all : IsEnough s m node → IsPathHandedOn t node → later ≡ gained m t (root_of t.parents)
  -- and each link of the path has acknowledged 2c + 2 items since s
  pub clean : IsEnough s m node → IsPathClean s t node
  -- if nothing was published after m, nothing came later, and each link of the path has handed on
  -- all
  pub handed_on : gained m t (root_of t.parents) ≡ [] → (later ≡ []) × IsPathHandedOn t node
