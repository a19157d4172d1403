-- A tree at rest, in which then one fault happens, and a run without faults.
-- Example: In the chain r, a, b of capacity 1 let both links have acknowledged four items since
-- anything was wrong, and all that r and a have. Then the tree is at rest.
-- Source: this project's own.
use Rattle.std.specs.Prelude.{◌≡◌, ℕ, ◌+◌, ◌*◌, ◌≤◌, List, [], ◌∷◌, Some}
use Rattle.stab_rounds.specs.TreeRounds.{IsHandedOn}
use Rattle.stab_tree.specs.Nodes.{parent_at}
use Rattle.stab_treecore.specs.declared.change.Change.{Change}
use Rattle.stab_treecore.specs.declared.change.Change.TheVariants.{Act, Publish, Strike, Restart}
use Rattle.stab_treecore.specs.Since.{acked_at, capacity_at}
use Rattle.stab_treecore.specs.WholeTree.{WholeTree}

-- acts and publications alone
abbrev pub HasNoFault : List Change → Type 0
HasNoFault [] = Unit {0}
HasNoFault (Act e ∷ changes) = HasNoFault changes
HasNoFault (Publish items ∷ changes) = HasNoFault changes
HasNoFault (Strike child start ∷ changes) = ⊥
HasNoFault (Restart node list ∷ changes) = ⊥

-- each link has acknowledged 2c + 2 items from s to t, and handed on all that its parent has
pub record IsAtRest (s t : WholeTree) : Type 0 where
  pub clean : (w parent : ℕ) → parent_at s.parents w ≡ Some parent
      → acked_at s w + 2 * capacity_at s w + 2 ≤ acked_at t w
  pub handed_on : (w parent : ℕ) → parent_at s.parents w ≡ Some parent → IsHandedOn t w parent
