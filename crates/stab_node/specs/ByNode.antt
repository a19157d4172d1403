-- What a run leaves, looked up by node and by link.
-- Source: this project's profile.
use Rattle.std.specs.Prelude.{ℕ, List, [], Option, None, slice_index_or}
use Rattle.stab_tree.specs.ByChild.{by_child}
use Rattle.stab_node.specs.declared.account.Ended.{Ended}
use Rattle.stab_node.specs.declared.account.Ended.TheVariants.{Turns}

-- what there is one of per link: the one of the link into a node
abbrev pub entry_into : {A : Type 0} → List (Option ℕ) → List A → ℕ → Option A
entry_into parents xs node = slice_index_or (by_child parents xs) node None

-- the items of a node
abbrev pub received_at : List (List ℕ) → ℕ → List ℕ
received_at received node = slice_index_or received node []

-- why the worker of a node made no further turn
abbrev pub ended_at : List Ended → ℕ → Ended
ended_at ended node = slice_index_or ended node Turns
