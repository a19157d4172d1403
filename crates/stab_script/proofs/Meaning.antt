-- What whole numbers, frames and events mean.
use Rattle.std.proofs.Common.{◌≡◌, ℕ, ◌-◌, ◌<◌, ◌≤◌, List, ◌∷◌, length, Option, Some, None, IfSome, refl, ap, le-leb, arith}
use Rattle.json.specs.Token.{Token}
use Rattle.json.specs.Json.{after_end_array}
use Rattle.serde_json.specs.Data.{unsigned, number, string, array, no_items, item}
use Rattle.stab_json.specs.Values.{whole_to, capped}
use Rattle.stab_script.specs.Starts.{frame}
use Rattle.stab_script.specs.Standing.{Stands, MeansWithin, Means}
use Rattle.stab_script.proofs.Standing.{a_text, a_pair}

-- what holds of whatever there is
pub of_what_is_there : {A : Type 0} {P Q : A → Type 0} (o : Option A) → ((x : A) → P x → Q x) → IfSome o P → IfSome o Q
of_what_is_there None f p = tt
of_what_is_there (Some x) f p = f x p

-- a whole number up to a limit
pub within_limit : (limit n : ℕ) (ts rest : List Token) → ((depth : ℕ) → Stands depth ts (number (unsigned n)) rest) → n ≤ limit → Means (whole_to limit) ts n rest
within_limit limit n ts rest first few depth some = (number (unsigned n), first depth, rw (le-leb n limit few) refl)

-- the same, where a larger one would be taken as the limit
pub not_capped : (limit depth n : ℕ) (ts rest : List Token) → Stands depth ts (number (unsigned n)) rest → n ≤ limit → MeansWithin depth (capped limit) ts n rest
not_capped limit depth n ts rest first few = (number (unsigned n), first, ap Some (omega arith))

frame_of : (l i : ℕ) → l ≤ 65535 → i ≤ 4294967295 → frame (array (item (number (unsigned l)) (item (number (unsigned i)) no_items))) ≡ Some (record { label = l; item = i })
frame_of l i few_l few_i = rw (le-leb l 65535 few_l) (rw (le-leb i 4294967295 few_i) refl)

-- a list of a label and an item
pub a_frame : (l i : ℕ) (ts us vs rest : List Token) → ((depth : ℕ) → Stands depth ts (number (unsigned l)) us) → l ≤ 65535 → ((depth : ℕ) → Stands depth us (number (unsigned i)) vs) → i ≤ 4294967295
    → after_end_array vs ≡ Some rest → length us < length ts → length vs < length us → Means frame (Token.begin_array ∷ ts) (record { label = l; item = i }) rest
a_frame l i ts us vs rest first few_l second few_i end less lesser depth some =
    let numbers = item (number (unsigned l)) (item (number (unsigned i)) no_items) in
    (array numbers, a_pair depth ts us vs rest (number (unsigned l)) (number (unsigned i)) some (first (depth - 1)) (second (depth - 1)) end less lesser, frame_of l i few_l few_i)

-- a list of a word and a number
pub a_numbered_word : (depth : ℕ) (word : List ℕ) (n : ℕ) (ts us rest : List Token) → 0 < depth → ((within : ℕ) → Stands within ts (number (unsigned n)) us) → length us < length ts
    → after_end_array us ≡ Some rest → Stands depth (Token.begin_array ∷ Token.string word ∷ ts) (array (item (string word) (item (number (unsigned n)) no_items))) rest
a_numbered_word depth word n ts us rest some second less end =
    a_pair depth (Token.string word ∷ ts) ts us rest (string word) (number (unsigned n)) some (a_text (depth - 1) word ts) (second (depth - 1)) end (omega arith) less
