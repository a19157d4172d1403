-- What stands first among tokens, one piece after another.
use Rattle.std.proofs.Common.{◌≡◌, ℕ, ◌-◌, ◌<◌, ◌≤◌, List, [], ◌∷◌, length, Bool, Option, Some, None, refl, ap, ◌∙◌, arith}
use Rattle.json.specs.Token.{Token}
use Rattle.json.specs.Json as json
use Rattle.json.specs.Json.{value, items, members, parse_map, after_end_array, read_key}
use Rattle.json.proofs.Grammar.{value_is, value-begin_array, value-begin_object, items_end, items_more, members_end, members_more, closed_array}
use Rattle.serde_json.specs.Data as values
use Rattle.serde_json.specs.Data.{Data, null, boolean, unsigned, number, string, array, object, Items, no_items, item, put}
use Rattle.serde_json.specs.Read.{number_of}
use Rattle.stab_json.specs.Values.{list_of}
use Rattle.stab_script.specs.Standing.{Stands, MeansWithin, EntriesMean, EntriesStand, MembersMake}

-- a text
pub a_text : (depth : ℕ) (s : List ℕ) (rest : List Token) → Stands depth (Token.string s ∷ rest) (string s) rest
a_text depth s rest = (json.string s, value_is depth (Token.string s ∷ rest), refl)

-- a whole number
pub a_number : (depth : ℕ) (s : List ℕ) (n : ℕ) (rest : List Token) → number_of s ≡ Some (unsigned n) → Stands depth (Token.number s ∷ rest) (number (unsigned n)) rest
a_number depth s n rest is = (json.number s, value_is depth (Token.number s ∷ rest), rw is refl)

-- a truth value
pub a_truth : (depth : ℕ) (truth : Bool) (rest : List Token) → Stands depth (Token.boolean truth ∷ rest) (boolean truth) rest
a_truth depth truth rest = (json.boolean truth, value_is depth (Token.boolean truth ∷ rest), refl)

-- null
pub a_null : (depth : ℕ) (rest : List Token) → Stands depth (Token.null ∷ rest) null rest
a_null depth rest = (json.null, value_is depth (Token.null ∷ rest), refl)

-- where a value stands, no list ends
goes_on_at : (depth : ℕ) (ts rest : List Token) (j : json.Json) (o : Option (List Token)) → value depth ts ≡ Some (j, rest) → after_end_array ts ≡ o → after_end_array ts ≡ None
goes_on_at depth ts rest j None first end = end
goes_on_at depth ts rest j (Some r) first end =
    let nothing : value depth (Token.end_array ∷ r) ≡ None = value_is depth (Token.end_array ∷ r) in
    let is : value depth ts ≡ None = ap (value depth) (closed_array ts r end) ∙ nothing in
    absurd (cc)

pub goes_on : (depth : ℕ) (ts rest : List Token) (d : Data) → Stands depth ts d rest → after_end_array ts ≡ None
goes_on depth ts rest d first = goes_on_at depth ts rest first.0 (after_end_array ts) first.1 refl

-- the end of a list's entries
pub no_entries : {X : Type 0} (depth : ℕ) (meaning : Data → Option X) (n : ℕ) (ts rest : List Token) → length ts ≤ n → after_end_array ts ≡ Some rest → EntriesMean depth meaning n ts [] rest
no_entries depth meaning n ts rest enough end = (json.no_items, items_end (value depth) n ts rest enough end, no_items, refl, refl)

-- an entry, and those after it
pub one_more_entry : {X : Type 0} (depth : ℕ) (meaning : Data → Option X) (n : ℕ) (ts r rest : List Token) (x : X) (xs : List X) → 0 < n → MeansWithin depth meaning ts x r
    → EntriesMean depth meaning (n - 1) r xs rest → EntriesMean depth meaning n ts (x ∷ xs) rest
one_more_entry depth meaning n ts r rest x xs some first later =
    let j = first.1 in (
      json.item j.0 later.0,
      items_more (value depth) n ts r j.0 some (goes_on depth ts r first.0 j) j.1 ∙ ap (parse_map (json.item j.0)) later.1,
      item first.0 later.2,
      rw j.2 (rw later.3 refl),
      rw first.2 (rw later.4 refl),
    )

-- the end of a list's entries, taken as values
pub no_values : (depth n : ℕ) (ts rest : List Token) → length ts ≤ n → after_end_array ts ≡ Some rest → EntriesStand depth n ts no_items rest
no_values depth n ts rest enough end = (json.no_items, items_end (value depth) n ts rest enough end, refl)

-- a value, and those after it
pub one_more_value : (depth n : ℕ) (ts r rest : List Token) (d : Data) (ds : Items) → 0 < n → Stands depth ts d r → EntriesStand depth (n - 1) r ds rest → EntriesStand depth n ts (item d ds) rest
one_more_value depth n ts r rest d ds some first later =
    (json.item first.0 later.0, items_more (value depth) n ts r first.0 some (goes_on depth ts r d first) first.1 ∙ ap (parse_map (json.item first.0)) later.1, rw first.2 (rw later.2 refl))

-- a list of values
pub a_list_of_values : (depth : ℕ) (ts rest : List Token) (ds : Items) → 0 < depth → EntriesStand (depth - 1) (length ts) ts ds rest → Stands depth (Token.begin_array ∷ ts) (array ds) rest
a_list_of_values depth ts rest ds some inside =
    (json.array inside.0, value-begin_array depth ts some ∙ ap (parse_map json.array) inside.1, rw inside.2 refl)

-- a list, by its entries
pub a_list : {X : Type 0} (depth : ℕ) (meaning : Data → Option X) (ts rest : List Token) (xs : List X) → 0 < depth → EntriesMean (depth - 1) meaning (length ts) ts xs rest
    → MeansWithin depth (list_of meaning) (Token.begin_array ∷ ts) xs rest
a_list depth meaning ts rest xs some inside =
    (array inside.2, (json.array inside.0, value-begin_array depth ts some ∙ ap (parse_map json.array) inside.1, rw inside.3 refl), inside.4)

-- a list of two
pub a_pair : (depth : ℕ) (ts us vs rest : List Token) (a b : Data) → 0 < depth → Stands (depth - 1) ts a us → Stands (depth - 1) us b vs → after_end_array vs ≡ Some rest
    → length us < length ts → length vs < length us → Stands depth (Token.begin_array ∷ ts) (array (item a (item b no_items))) rest
unfolding one_more_entry no_entries
a_pair depth ts us vs rest a b some first second end less lesser =
    let inside : EntriesMean (depth - 1) Some (length ts) ts (a ∷ b ∷ []) rest =
    one_more_entry (depth - 1) Some (length ts) ts us rest a (b ∷ []) (omega (arith, less)) (a, first, refl)
    (one_more_entry (depth - 1) Some (length ts - 1) us vs rest b [] (omega (arith, less, lesser)) (b, second, refl)
    (no_entries (depth - 1) Some (length ts - 1 - 1) vs rest (omega (arith, less, lesser)) end)) in
    (json.array inside.0, value-begin_array depth ts some ∙ ap (parse_map json.array) inside.1, rw inside.3 refl)

-- the end of an object's members
pub no_members : (depth : ℕ) (found : values.Members) (n : ℕ) (ts rest : List Token) → length ts ≤ n → read_key ts ≡ Some (None, rest) → MembersMake depth found n ts found rest
no_members depth found n ts rest enough end = (json.no_members, members_end (value depth) n ts rest enough end, refl)

-- a member, and those after it
pub one_more_member : (depth : ℕ) (found : values.Members) (n : ℕ) (k : List ℕ) (ts us r rest : List Token) (d : Data) (ms : values.Members) → 0 < n → read_key ts ≡ Some (Some k, us)
    → Stands depth us d r → MembersMake depth (put k d found) (n - 1) r ms rest → MembersMake depth found n ts ms rest
one_more_member depth found n k ts us r rest d ms some key first later =
    (json.member k first.0 later.0, members_more (value depth) n k ts us r first.0 some key first.1 ∙ ap (parse_map (json.member k first.0)) later.1, rw first.2 later.2)

-- an object, by its members
pub an_object : (depth : ℕ) (ts rest : List Token) (ms : values.Members) → 0 < depth → MembersMake (depth - 1) values.no_members (length ts) ts ms rest → Stands depth (Token.begin_object ∷ ts) (object ms) rest
an_object depth ts rest ms some inside =
    (json.object inside.0, value-begin_object depth ts some ∙ ap (parse_map json.object) inside.1, rw inside.2 refl)
