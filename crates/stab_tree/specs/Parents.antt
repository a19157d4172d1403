-- The parents that entries name, and what the checks of them ask: how many nodes have none, and
-- whether each node has a depth (this project's profile).
use Rattle.std.specs.Prelude.{ℕ, List, [], ◌∷◌, length, Bool, Option, Some, None, is_some, is_none}
use Rattle.std.specs.Prelude.{option_map}
use Rattle.std.specs.List.{list_all, count_by, range_with_len}
use Rattle.std.specs.Option.{option_map_or}
use Rattle.stab_json.specs.Values.{◌>>=◌}
use Rattle.stab_tree.specs.Entry.{Entry}
use Rattle.stab_tree.specs.Nodes.{place_of}
use Rattle.stab_tree.specs.Steps.{depth_at}

-- no parent, or the place of the parent; nothing where no node has its name
abbrev pub parent_of : List (List ℕ) → Entry → Option (Option ℕ)
parent_of names e =
    option_map_or (λ name. option_map (λ place. Some place) (place_of names name)) e.parent
    (Some None)

-- the parents of the entries, where each is the name of a node
abbrev pub parents_of : List (List ℕ) → List Entry → Option (List (Option ℕ))
parents_of names [] = Some []
parents_of names (e ∷ es) = do
  parent ← parent_of names e
  parents ← parents_of names es
  Some (parent ∷ parents)

-- the number of nodes without a parent
abbrev pub root_count : List (Option ℕ) → ℕ
root_count parents = count_by is_none parents

-- each node has a depth
abbrev pub have_depths : List (Option ℕ) → Bool
have_depths parents =
    list_all (λ w. is_some (depth_at parents w)) (range_with_len 0 (length parents))
