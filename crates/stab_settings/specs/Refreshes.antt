-- A refresh: a stretch of the published list that sets each of the keys in use. It may be one item
-- that has the whole table, or the table item by item, with changes in between. Example: The
-- published list sets key 1, sets key 2, is harmless for three items, sets key 2 and then key 1.
-- Its items from 5 up to 7 are a refresh of the keys 1 and 2, as are the first two; the items from
-- 5 up to 6 are none, since they do not set key 1. A node whose last published item is at place 6
-- has come to 7, and one without published items has come to 0. Source: this project's own.
use Rattle.std.specs.Prelude.{◌≡◌, ℕ, ◌+◌, ◌≤◌, ◌<◌, List, length, fold, slice_index, Contains}
use Rattle.stab_settings.specs.Tables.{Reading, Setting, Table}

-- one of these settings is of this key
abbrev pub Sets : List Setting → ℕ → Type 0
Sets settings key = (setting : Setting) × Contains settings setting × (setting.key ≡ key)

-- one of the items from this place up to that one sets the key
pub record IsSetBetween (reading : Reading) (items : List ℕ) (first after key : ℕ) : Type 0 where
  pub place : ℕ
  pub from_first : first ≤ place
  pub before_end : place < after
  pub sets : Sets (reading (slice_index items place)) key

-- the items from this place up to that one set every one of these keys
pub record IsRefresh (reading : Reading) (keys items : List ℕ) (first after : ℕ)
    : Type 0 where
  pub in_list : after ≤ length items
  pub all_set : (key : ℕ) → Contains keys key → IsSetBetween reading items first after key

-- how far a list goes that was picked at these places: just behind its last place
abbrev pub reached : List ℕ → ℕ
reached = fold (λ before place. place + 1) 0

-- two tables have the same beside each of these keys
abbrev pub SameBeside : List ℕ → Table → Table → Type 0
SameBeside keys table other = (key : ℕ) → Contains keys key → table key ≡ other key
