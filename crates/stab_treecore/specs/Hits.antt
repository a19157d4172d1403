-- Which faults hit a node, and which touch a link. A node counts from the last fault that hits it.
-- Example: In the chain r, a, b a strike at the link into a hits a and b, and touches the link into
-- a alone. The restart of a hits a and b as well, and touches the links into a and into b. A strike
-- at the link into b hits b alone.
-- Source: this project's own.
use Rattle.std.specs.Prelude.{◌≡◌, ◌⊎◌, ℕ, List, [], ◌∷◌, Option, Some}
use Rattle.stab_treecore.specs.Changes.{Change, Act, Publish, Strike, Restart}
use Rattle.stab_tree.specs.Nodes.{parent_at}
use Rattle.stab_tree.specs.Steps.{Reaches}

-- A fault hits a node if it is one at the node, at a node above it, or at a link into one of these.
abbrev pub Hits : List (Option ℕ) → ℕ → Change → Type 0
Hits parents node (Act e) = ⊥
Hits parents node (Publish items) = ⊥
Hits parents node (Strike child start) = Reaches parents node child
Hits parents node (Restart other list) = Reaches parents node other

-- no fault hits the node
abbrev pub Spare : List (Option ℕ) → ℕ → List Change → Type 0
Spare parents node [] = Unit {0}
Spare parents node (change ∷ changes) = ¬ Hits parents node change × Spare parents node changes

-- A fault touches the link into a node if it strikes the link, or restarts one of its two nodes.
abbrev pub TouchesLink : List (Option ℕ) → ℕ → Change → Type 0
TouchesLink parents w (Act e) = ⊥
TouchesLink parents w (Publish items) = ⊥
TouchesLink parents w (Strike child start) = child ≡ w
TouchesLink parents w (Restart other list) = (other ≡ w) ⊎ (parent_at parents w ≡ Some other)

-- no fault touches the link into the node
abbrev pub SpareLink : List (Option ℕ) → ℕ → List Change → Type 0
SpareLink parents w [] = Unit {0}
SpareLink parents w (change ∷ changes) =
    ¬ TouchesLink parents w change × SpareLink parents w changes
