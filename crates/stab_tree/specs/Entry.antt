-- What one object of a tree's list says: a name, and the name of a parent where there is one
-- (this project's profile).
use Rattle.std.specs.Prelude.{ℕ, List, map, codes, Option, Some, None, option_map}
use Rattle.serde_json.specs.Data.{Data, null}
use Rattle.serde_json.specs.Find.{get, as_str}
use Rattle.stab_json.specs.Values.{◌>>=◌, list_of}

pub record Entry : Type 0 where
  pub name : List ℕ
  pub parent : Option (List ℕ)

-- the member `parent`: absent, null or a text
abbrev pub parent_member : Option Data → Option (Option (List ℕ))
parent_member None = Some None
parent_member (Some null) = Some None
parent_member (Some d) = option_map (λ s. Some s) (as_str d)

-- an object with a text `name`; its other members are ignored
abbrev pub entry_of : Data → Option Entry
entry_of d = do
  its_name ← get (codes "name") d >>= as_str
  its_parent ← parent_member (get (codes "parent") d)
  Some (record { name = its_name; parent = its_parent })

-- a list of such objects
abbrev pub entries_of : Data → Option (List Entry)
entries_of = list_of entry_of

-- the names of the entries
abbrev pub names_of : List Entry → List (List ℕ)
names_of es = map (λ (e : Entry). e.name) es
