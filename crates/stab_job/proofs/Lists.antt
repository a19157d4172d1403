-- Values that were read in lists, and results that are there.
use Rattle.std.proofs.Common.{◌≡◌, ℕ, ◌-◌, ◌<◌, List, [], ◌∷◌, ◌++◌, length, map, Option, Some, None, option_and_then, Result, Ok, Err, IfOk, refl, ap, ◌∙◌, subst}
use Rattle.json.specs.Token.{Token}
use Rattle.serde_json.specs.Data.{Data, null, boolean, number, string, array, object, Items, no_items, item}
use Rattle.serde_json.specs.Find.{as_array}
use Rattle.serde_json.specs.View.{view, items_of}
use Rattle.serde_json.specs.declared.value.Value.{Value}
use Rattle.stab_json.specs.Values.{entries}
use Rattle.stab_script.specs.Standing.{Stands, EntriesMean}
use Rattle.stab_script.proofs.Standing.{a_list}

-- what holds of whatever was done
pub of_what_is_done : {A E : Type 0} {P Q : A → Type 0} (r : Result A E) → ((x : A) → P x → Q x) → IfOk r P → IfOk r Q
of_what_is_done (Ok x) f p = f x p
of_what_is_done (Err e) f p = tt

-- what is found in two steps
found_first : {A B : Type 0} (f : A → Option B) (o : Option A) (b : B) → option_and_then f o ≡ Some b → (a : A) × (o ≡ Some a) × (f a ≡ Some b)
found_first f None b is = absurd (cc)
found_first f (Some a) b is = (a, refl, is)

-- a value with entries is a list of them
is_array : (d : Data) (ds : Items) → as_array d ≡ Some ds → d ≡ array ds
is_array null ds is = absurd (cc)
is_array (boolean b) ds is = absurd (cc)
is_array (number n) ds is = absurd (cc)
is_array (string s) ds is = absurd (cc)
is_array (array es) ds is = let same : es ≡ ds = cc in ap array same
is_array (object ms) ds is = absurd (cc)

-- entries that are taken as they are
as_they_are : (ds : Items) (xs : List Data) → entries Some ds ≡ Some xs → ds ≡ items_of xs
as_they_are no_items [] is = refl
as_they_are no_items (x ∷ xs) is = absurd (cc)
as_they_are (item d ds) xs is =
    let more = found_first (λ later. Some (d ∷ later)) (entries Some ds) xs is in
    let all : d ∷ more.0 ≡ xs = cc in
    ap (item d) (as_they_are ds more.0 more.1) ∙ ap items_of all

-- a list, by its entries
pub a_list_of : (depth : ℕ) (ts rest : List Token) (xs : List Data) → 0 < depth → EntriesMean (depth - 1) Some (length ts) ts xs rest → Stands depth (Token.begin_array ∷ ts) (array (items_of xs)) rest
a_list_of depth ts rest xs some inside =
    let list = a_list depth Some ts rest xs some inside in
    let its = found_first (entries Some) (as_array list.0) xs list.2 in
    let same : list.0 ≡ array (items_of xs) = is_array list.0 its.0 its.1 ∙ ap array (as_they_are its.0 xs its.2) in
    subst (λ d. Stands depth (Token.begin_array ∷ ts) d rest) same list.1

-- a value after others is seen after them
pub one_more_seen : (vs : List Value) (v : Value) → map view (vs ++ v ∷ []) ≡ map view vs ++ view v ∷ []
one_more_seen [] v = refl
one_more_seen (u ∷ vs) v = ap (λ ds. view u ∷ ds) (one_more_seen vs v)
