-- From a moment on a node receives what its path still had for it, and then exactly what is
-- published, in order, each item once.
-- Example: In the chain r, a, b let r have 9 for a, and a have 7 and 8 for b. Then 7, 8, 9 wait on
-- the path of b; or 8, 9 do, if 7 has arrived and is not yet acknowledged. If r publishes 10 and 11
-- later, b receives 7, 8, 9, 10, 11.
-- Source: this project's own.
use Rattle.std.specs.Prelude.{◌≡◌, ℕ, zero, suc, ◌+◌, ◌*◌, ◌≤◌, List, [], ◌++◌, length, drop}
use Rattle.std.specs.Prelude.{Some, None}
use mathlib.Core.List.{IsPrefix}
use Rattle.stab_convergence.specs.Converged.{IsPathHandedOn}
use Rattle.stab_treecore.specs.Since.{acked_at, capacity_at, gained}
use Rattle.stab_tree.specs.Nodes.{parent_at, root_of}
use Rattle.stab_tree.specs.Steps.{Reaches}
use Rattle.stab_treecore.specs.WholeTree.{WholeTree, received}

-- each link of the node's path has acknowledged 2c + 2 items from s to t
abbrev pub IsPathClean : WholeTree → WholeTree → ℕ → Type 0
IsPathClean s t node =
    (w parent : ℕ) → Reaches s.parents node w → parent_at s.parents w ≡ Some parent
    → acked_at s w + 2 * capacity_at s w + 2 ≤ acked_at t w

-- These items wait on the path of a node that is so many links below the root: what its parent has
-- and the link has not acknowledged, maybe but for the first of them, which may have arrived; and
-- behind it what waits on the path of the parent.
abbrev pub IsWaiting : WholeTree → ℕ → ℕ → List ℕ → Type 0
IsWaiting t zero node items = (parent_at t.parents node ≡ None) × (items ≡ [])
IsWaiting t (suc steps) node items =
    (parent : ℕ) × (from : ℕ) × (above : List ℕ) × (parent_at t.parents node ≡ Some parent)
    × (acked_at t node ≤ from) × (from ≤ acked_at t node + 1)
    × (items ≡ drop from (received t parent) ++ above) × IsWaiting t steps parent above

-- what the node received from t to u
pub record IsExact (t u : WholeTree) (node : ℕ) : Type 0 where
  pub steps : ℕ
  pub waiting : List ℕ
  pub on_path : IsWaiting t steps node waiting
  -- nothing waits where each link of the path has handed on all
  pub at_rest : IsPathHandedOn t node → waiting ≡ []
  -- is what waited at t and then what is published since, as far as it has come
  pub in_order : IsPrefix (gained t u node) (waiting ++ gained t u (root_of t.parents))
  -- and all of it, once each link of the path has handed it on
  pub all : IsPathHandedOn u node → gained t u node ≡ waiting ++ gained t u (root_of t.parents)

-- what a child received from t to u
pub record PassesAll (t u : WholeTree) (child parent : ℕ) : Type 0 where
  -- is what its parent received, as far as it has come
  pub in_order : IsPrefix (gained t u child) (gained t u parent)
  -- and all of it, once all that the parent has is acknowledged
  pub all : acked_at u child ≡ length (received u parent) → gained t u child ≡ gained t u parent
