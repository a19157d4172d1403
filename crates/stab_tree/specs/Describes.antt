-- What a value says of a tree: each entry's name, and the node that has its parent's name
-- (this project's profile).
use Rattle.std.specs.Prelude.{◌≡◌, ℕ, ◌<◌, List, length, slice_get, Option, Some, None, ⊤}
use Rattle.serde_json.specs.Data.{Data}
use Rattle.stab_tree.specs.Depth.{EndsAfter}
use Rattle.stab_tree.specs.Entry.{Entry, entries_of, names_of}
use Rattle.stab_tree.specs.Nodes.{Nodes, parent_at}

-- an entry without a parent describes a node without one, and an entry with a parent describes a
-- child of the node of that name
abbrev pub IsParent : List (List ℕ) → Option (List ℕ) → Option ℕ → Type 0
IsParent names None None = ⊤
IsParent names None (Some p) = ⊥
IsParent names (Some s) None = ⊥
IsParent names (Some s) (Some p) = slice_get names p ≡ Some s

-- the value is a list of entries, one for each node
pub record Describes (d : Data) (t : Nodes) : Type 0 where
  pub entries : List Entry
  pub listed : entries_of d ≡ Some entries
  pub names : t.names ≡ names_of entries
  pub number : length t.parents ≡ length entries
  pub parents : (w : ℕ) (e : Entry) → slice_get entries w ≡ Some e
      → IsParent t.names e.parent (parent_at t.parents w)

-- the value describes nodes, and the parent steps of one of them never end
pub record HasCycle (d : Data) : Type 0 where
  pub nodes : Nodes
  pub described : Describes d nodes
  pub start : ℕ
  pub is_node : start < length nodes.parents
  pub endless : (k : ℕ) → ¬ EndsAfter nodes.parents start k
