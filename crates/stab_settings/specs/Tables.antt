-- Settings, and the table that whoever applies them has: beside each key the value that was set
-- last. How an item is read is the user's own: a harmless item sets nothing, an item may set one
-- key, and one item may set every key of a table.
-- Example: Of items that set key 1 to 5, key 2 to 6 and key 1 to 7, applied to the empty table, the
-- table has 7 beside 1, 6 beside 2 and nothing beside any other key. An item that sets key 2 to
-- nothing removes the 6.
-- Source: this project's own.
use Rattle.std.specs.Prelude.{ℕ, ◌==◌, List, Option, None, if◌then◌else◌, fold}

-- a key is set to a value, or to none
pub record Setting : Type 0 where
  pub key : ℕ
  pub value : Option ℕ

-- the value beside each key, where there is one
abbrev pub Table : Type 0
Table = ℕ → Option ℕ

-- the settings that an item is read as, in their order
abbrev pub Reading : Type 0
Reading = ℕ → List Setting

abbrev pub empty_table : Table
empty_table key = None

-- the table after a setting
abbrev pub set_key : Table → Setting → Table
set_key table setting key = if key == setting.key then setting.value else table key

-- the table after the settings of an item
abbrev pub apply_item : Reading → Table → ℕ → Table
apply_item reading table item = fold set_key table (reading item)

-- the table after the settings of all items, in their order
abbrev pub apply_items : Reading → Table → List ℕ → Table
apply_items reading = fold (apply_item reading)
