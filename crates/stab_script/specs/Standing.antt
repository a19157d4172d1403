-- Standing: the value that stands first among the tokens of a text, and what it means.
-- Example: among the tokens of `["offer", 7], "close"` a list stands first, and the text `close`
-- follows it; the list means the offer of item 7.
-- Source: this project's profile, over the tokens of `json` and the values of `serde_json`.
use Rattle.std.specs.Prelude.{◌≡◌, ℕ, ◌<◌, List, Option, Some}
use Rattle.json.specs.Token.{Token}
use Rattle.json.specs.Json as json
use Rattle.json.specs.Json.{value, items, members}
use Rattle.serde_json.specs.Data as values
use Rattle.serde_json.specs.Data.{Data}
use Rattle.serde_json.specs.Read.{of_json, of_items, of_members}
use Rattle.stab_json.specs.Values.{entries}

-- the value d stands first, nested no deeper than `depth`, and `rest` follows it
abbrev pub Stands : ℕ → List Token → Data → List Token → Type 0
Stands depth ts d rest = (j : json.Json) × (value depth ts ≡ Some (j, rest)) × (of_json j ≡ Some d)

-- a value stands first that means x
abbrev pub MeansWithin : {X : Type 0} → ℕ → (Data → Option X) → List Token → X → List Token → Type 0
MeansWithin depth meaning ts x rest =
    (d : Data) × (Stands depth ts d rest) × (meaning d ≡ Some x)

-- the same, wherever a list may stand
abbrev pub Means : {X : Type 0} → (Data → Option X) → List Token → X → List Token → Type 0
Means meaning ts x rest = (depth : ℕ) → 0 < depth → MeansWithin depth meaning ts x rest

-- entries that mean xs, and the bracket that closes their list; `turns` bounds their number
abbrev pub EntriesMean : {X : Type 0} → ℕ → (Data → Option X) → ℕ → List Token → List X
    → List Token → Type 0
EntriesMean depth meaning turns ts xs rest =
    (js : json.Items) × (items (value depth) turns ts ≡ Some (js, rest))
    × (ds : values.Items) × (of_items js ≡ Some ds) × (entries meaning ds ≡ Some xs)

-- these values as entries, and the bracket that closes their list; `turns` bounds their number
abbrev pub EntriesStand : ℕ → ℕ → List Token → values.Items → List Token → Type 0
EntriesStand depth turns ts ds rest =
    (js : json.Items) × (items (value depth) turns ts ≡ Some (js, rest)) × (of_items js ≡ Some ds)

-- the value d stands first, wherever a list may stand
abbrev pub StandsInLists : List Token → Data → List Token → Type 0
StandsInLists ts d rest = (depth : ℕ) → 0 < depth → Stands depth ts d rest

-- members that make `ms` of `found`, and the brace that closes their object
abbrev pub MembersMake : ℕ → values.Members → ℕ → List Token → values.Members → List Token → Type 0
MembersMake depth found turns ts ms rest =
    (js : json.Members) × (members (value depth) turns ts ≡ Some (js, rest))
    × (of_members js found ≡ Some ms)
