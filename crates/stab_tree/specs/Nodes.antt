-- The nodes of a tree in file order: the name of each, and the place of its parent
-- (this project's profile).
use Rattle.std.specs.Prelude.{ℕ, List, Option, None, is_none, slice_index_or}
use Rattle.std.specs.List.{position, position_or_len}
use Rattle.std.specs.Str.{bytes_eq}

-- the most nodes that a tree has which is read
abbrev pub most_nodes : ℕ
most_nodes = 64

pub record Nodes : Type 0 where
  pub names : List (List ℕ)
  pub parents : List (Option ℕ)

-- the place of the parent of w, and nothing where w has none or is no node
abbrev pub parent_at : List (Option ℕ) → ℕ → Option ℕ
parent_at parents w = slice_index_or parents w None

-- the place of the first node without a parent
abbrev pub root_of : List (Option ℕ) → ℕ
root_of parents = position_or_len is_none parents

-- the place of the first node of that name
abbrev pub place_of : List (List ℕ) → List ℕ → Option ℕ
place_of names name = position (λ s. bytes_eq s name) names
