-- What each node of a tree begins with.
-- Source: this project's profile.
use Rattle.std.specs.Prelude.{ℕ, List, ◌==◌, if◌then◌else◌}
use Rattle.stab_tree.specs.NodeOpenings.{opening_at}

-- what a node begins with: the root with the published items, any other node with its opening
abbrev pub initial_at : ℕ → List ℕ → List (List ℕ) → ℕ → List ℕ
initial_at root published openings node =
    if node == root then published else opening_at openings node
