-- The last fault that hits a node, by the number of its step.
-- Example: In the chain r, a, b let step 3 be a strike at the link into a, and step 5 the restart
-- of b. The last fault of a is step 3, that of b is step 5, and that of r is 0: none hits it.
-- Source: this project's own.
use Rattle.std.specs.Prelude.{ℕ, zero, suc, ◌==◌, List, [], ◌∷◌, Bool, true, false, Option}
use Rattle.std.specs.Prelude.{if◌then◌else◌}
use Rattle.std.specs.Option.{option_map_or}
use Rattle.stab_tree.specs.Nodes.{parent_at}
use Rattle.stab_tree.specs.Steps.{depth_of}
use Rattle.stab_treecore.specs.declared.change.Change.TheVariants.{Strike, Restart}
use Rattle.rignolda_scenario.specs.declared.step.Step.{Step}
use Rattle.rignolda_scenario.specs.declared.step.Step.TheVariants.{One}

-- another node is this one, or one of the nearest `count` nodes above it
abbrev pub is_within : List (Option ℕ) → ℕ → ℕ → ℕ → Bool
is_within parents zero other at = at == other
is_within parents (suc count) other at =
    if at == other then true
    else option_map_or (is_within parents count other) (parent_at parents at) false

-- another node is on the path of a node
abbrev pub is_on_path : List (Option ℕ) → ℕ → ℕ → Bool
is_on_path parents node other = is_within parents (depth_of parents node) other node

-- a step is a fault, whichever node it hits
abbrev pub is_fault : Step → Bool
is_fault (One (Strike child start)) = true
is_fault (One (Restart other list)) = true
is_fault _ = false

-- a step is a fault that hits a node
abbrev pub hits : List (Option ℕ) → ℕ → Step → Bool
hits parents node (One (Strike child start)) = is_on_path parents node child
hits parents node (One (Restart other list)) = is_on_path parents node other
hits parents node _ = false

-- the last of these steps that hits a node, by its number, where `count` steps are before them; or
-- else the number `last`
abbrev pub last_after : List (Option ℕ) → ℕ → ℕ → ℕ → List Step → ℕ
last_after parents node count last [] = last
last_after parents node count last (step ∷ steps) =
    last_after parents node (suc count) (if hits parents node step then suc count else last) steps

-- the last step that hits a node, and 0 where none does
abbrev pub last_fault : List (Option ℕ) → ℕ → List Step → ℕ
last_fault parents node steps = last_after parents node 0 0 steps
