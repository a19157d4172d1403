-- What a step means.
use Rattle.std.proofs.Common.{◌≡◌, ℕ, ◌-◌, ◌<◌, List, [], ◌∷◌, length, Some, refl, arith}
use Rattle.json.specs.Token.{Token}
use Rattle.json.specs.Json.{after_end_array}
use Rattle.serde_json.specs.Data.{Data, unsigned, number, string, array, no_items, item}
use Rattle.stab_core.specs.declared.act.LinkAct.{LinkAct}
use Rattle.stab_script.specs.Events.{plain_act, loss_act}
use Rattle.stab_job.specs.ScheduleEntries.{named_act}
use Rattle.stab_script.specs.Standing.{Stands, MeansWithin}
use Rattle.stab_job.proofs.Lists.{a_list_of}
use Rattle.stab_script.proofs.Standing.{a_text, a_pair, one_more_entry, no_entries}

-- a list of three
a_triple : (depth : ℕ) (ts us vs ws rest : List Token) (a b d : Data) → 0 < depth → Stands (depth - 1) ts a us → Stands (depth - 1) us b vs → Stands (depth - 1) vs d ws → after_end_array ws ≡ Some rest
    → length us < length ts → length vs < length us → length ws < length vs → Stands depth (Token.begin_array ∷ ts) (array (item a (item b (item d no_items)))) rest
a_triple depth ts us vs ws rest a b d some first second third end less lesser least =
    let n = length ts in
    a_list_of depth ts rest (a ∷ b ∷ d ∷ []) some
    (one_more_entry (depth - 1) Some n ts us rest a (b ∷ d ∷ []) (omega (arith, less)) (a, first, refl)
    (one_more_entry (depth - 1) Some (n - 1) us vs rest b (d ∷ []) (omega (arith, less, lesser)) (b, second, refl)
    (one_more_entry (depth - 1) Some (n - 1 - 1) vs ws rest d [] (omega (arith, less, lesser, least)) (d, third, refl)
    (no_entries (depth - 1) Some (n - 1 - 1 - 1) ws rest (omega (arith, less, lesser, least)) end))))

-- a list of a name and a word
pub a_plain_step : (depth : ℕ) (child word : List ℕ) (ts rest : List Token) (act : LinkAct) → 0 < depth → after_end_array ts ≡ Some rest → plain_act word ≡ Some act
    → MeansWithin depth named_act (Token.begin_array ∷ Token.string child ∷ Token.string word ∷ ts) (record { child = child; act = act }) rest
a_plain_step depth child word ts rest act some end is =
    let us = Token.string word ∷ ts in
    let both = item (string child) (item (string word) no_items) in
    (array both, a_pair depth (Token.string child ∷ us) us ts rest (string child) (string word) some (a_text (depth - 1) child us) (a_text (depth - 1) word ts) end (omega arith) (omega arith), rw is refl)

-- a list of a name, the word of a loss and a place
pub a_loss : (depth : ℕ) (child word : List ℕ) (place : ℕ) (ts us rest : List Token) (act : LinkAct) → 0 < depth → Stands (depth - 1) ts (number (unsigned place)) us → length us < length ts
    → after_end_array us ≡ Some rest → loss_act word (number (unsigned place)) ≡ Some act
    → MeansWithin depth named_act (Token.begin_array ∷ Token.string child ∷ Token.string word ∷ ts) (record { child = child; act = act }) rest
a_loss depth child word place ts us rest act some third less end is =
    let vs = Token.string word ∷ ts in
    let three = item (string child) (item (string word) (item (number (unsigned place)) no_items)) in (
      array three,
      a_triple depth (Token.string child ∷ vs) vs ts us rest (string child) (string word) (number (unsigned place)) some (a_text (depth - 1) child vs) (a_text (depth - 1) word ts) third end (omega arith) (omega arith) less,
      rw is refl,
    )
