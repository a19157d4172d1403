-- Values: what one JSON value means as a whole number, a label, an item, a pair or a list; None
-- where it means nothing such.
-- Example: `capped 65535` of 65536 is 65535; so a capacity of 65536 has the right shape and is
-- refused as out of range. `label` of 65536 is nothing, so a start with that label is a wrong
-- shape.
-- Source: this project's profile, over the values of `serde_json`.
use Rattle.std.specs.Prelude.{ℕ, suc, nat_le, min, List, [], ◌∷◌, if◌then◌else◌}
use Rattle.std.specs.Prelude.{Option, Some, None, option_and_then, option_map}
use Rattle.std.specs.Str.{is_utf8}
use Rattle.serde_json.specs.Data.{Data, Items, no_items, item}
use Rattle.serde_json.specs.Find.{as_number, as_u64, as_array}
use Rattle.serde_json.specs.Read.{read}

infixl 10 ◌>>=◌
-- what follows, if there is something so far
abbrev pub ◌>>=◌ : {A B : Type 0} → Option A → (A → Option B) → Option B
o >>= f = option_and_then f o

-- the value that these bytes mean: they are UTF-8, and `serde_json` reads a value from them
abbrev pub value_of : List ℕ → Option Data
value_of bytes = if is_utf8 bytes then read bytes else None

-- a whole number; 1.0, 1e2, -1 and "1" are none
abbrev pub whole : Data → Option ℕ
whole d = as_number d >>= as_u64

-- the largest whole number of 16 bits, and of 32 bits
abbrev pub most_u16 : ℕ
most_u16 = 65535

abbrev pub most_u32 : ℕ
most_u32 = 4294967295

-- a whole number up to this limit
abbrev pub whole_to : ℕ → Data → Option ℕ
whole_to limit d = whole d >>= (λ n. if nat_le n limit then Some n else None)

-- a label, and as well a place in a queue: a whole number of 16 bits
abbrev pub label : Data → Option ℕ
label = whole_to most_u16

-- an item: a whole number of 32 bits
abbrev pub item_number : Data → Option ℕ
item_number = whole_to most_u32

-- a whole number, where one over this limit is taken as the limit
abbrev pub capped : ℕ → Data → Option ℕ
capped limit d = option_map (min limit) (whole d)

-- the two values of a list of two
abbrev pub pair_of_items : Items → Option (Data × Data)
pair_of_items (item a (item b no_items)) = Some (a, b)
pair_of_items _ = None

abbrev pub pair : Data → Option (Data × Data)
pair d = as_array d >>= pair_of_items

-- how many entries there are
abbrev pub count : Items → ℕ
count no_items = 0
count (item d ds) = suc (count ds)

-- the list of what the entries mean, if each of them means something
abbrev pub entries : {X : Type 0} → (Data → Option X) → Items → Option (List X)
entries meaning no_items = Some []
entries meaning (item d ds) = meaning d >>= (λ x. entries meaning ds >>= (λ xs. Some (x ∷ xs)))

-- a list, each entry of which means something
abbrev pub list_of : {X : Type 0} → (Data → Option X) → Data → Option (List X)
list_of meaning d = as_array d >>= entries meaning

-- such a list, or nothing at all, which means the empty list
abbrev pub list_or_absent : {X : Type 0} → (Data → Option X) → Option Data → Option (List X)
list_or_absent meaning None = Some []
list_or_absent meaning (Some d) = list_of meaning d
