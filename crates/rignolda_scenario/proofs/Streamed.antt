-- Steps that were read off the tokens of a text.
use Rattle.std.proofs.Common.{◌≡◌, ℕ, ◌-◌, ◌<◌, ◌≤◌, List, ◌∷◌, length, codes, Some, option_map, le-leb, refl, sym, ap, ◌∙◌, arith}
use Rattle.json.specs.Token.{Token}
use Rattle.json.specs.Json.{after_end_array}
use Rattle.serde_json.specs.Data.{Data, null, boolean, unsigned, number, string, array, object, Members, Items, no_items, item}
use Rattle.stab_core.specs.declared.act.LinkAct.{LinkAct}
use Rattle.stab_core.specs.declared.start.Start.{Start}
use Rattle.stab_json.specs.Values.{entries, item_number, list_of}
use Rattle.stab_script.specs.Starts.{start}
use Rattle.stab_script.specs.Standing.{Stands, MeansWithin}
use Rattle.stab_script.proofs.Standing.{a_list_of_values, a_pair, a_text, no_values, one_more_value}
use Rattle.stab_job.specs.ScheduleEntries.{named_act}
use Rattle.rignolda_scenario.specs.NamedSteps.{NamedStep, act_on, published, strike_at, restart_of, rounds, reading_rounds, named_of_three, named_of_two, named_step}
use Rattle.rignolda_scenario.proofs.NamedMeaning.{act_is_named}

-- a list of items is one
listed : (d : Data) (items : List ℕ) → list_of item_number d ≡ Some items → (ds : Items) × (d ≡ array ds) × (entries item_number ds ≡ Some items)
listed (array ds) items is = (ds, refl, is)
listed null items is = absurd (cc)
listed (boolean b) items is = absurd (cc)
listed (number k) items is = absurd (cc)
listed (string s) items is = absurd (cc)
listed (object ms) items is = absurd (cc)

-- a start is an object
is_object : (d : Data) (its_start : Start) → start d ≡ Some its_start → (ms : Members) × (d ≡ object ms)
is_object (object ms) its_start is = (ms, refl)
is_object (array ds) its_start is = absurd (cc)
is_object null its_start is = absurd (cc)
is_object (boolean b) its_start is = absurd (cc)
is_object (number k) its_start is = absurd (cc)
is_object (string s) its_start is = absurd (cc)

-- the last values of steps
module _ (depth : ℕ) (ts rest : List Token) (word : List ℕ) where
  pub some_items : (items : List ℕ) → word ≡ codes "publish" → MeansWithin depth (list_of item_number) ts items rest → MeansWithin depth (named_of_two (string word)) ts (published items) rest
  some_items items named (d, first, means) =
      let list = listed d items means in
      (d, first, ap (named_of_two (string word)) list.1 ∙ ap (λ w. named_of_two (string w) (array list.0)) named ∙ ap (option_map published) list.2)

  pub a_count : (count : ℕ) → word ≡ codes "rounds" → Stands depth ts (number (unsigned count)) rest → count ≤ 65535 → MeansWithin depth (named_of_two (string word)) ts (rounds count) rest
  a_count count named first few = (
    number (unsigned count),
    first,
    ap (λ w. named_of_two (string w) (number (unsigned count))) named ∙ rw (le-leb count 65535 few) refl,
  )

  pub a_reading_count : (count : ℕ) → word ≡ codes "reading_rounds" → Stands depth ts (number (unsigned count)) rest → count ≤ 65535
      → MeansWithin depth (named_of_two (string word)) ts (reading_rounds count) rest
  a_reading_count count named first few = (
    number (unsigned count),
    first,
    ap (λ w. named_of_two (string w) (number (unsigned count))) named ∙ rw (le-leb count 65535 few) refl,
  )

  pub a_new_list : (name items : List ℕ) → word ≡ codes "restart" → MeansWithin depth (list_of item_number) ts items rest
      → MeansWithin depth (named_of_three (string word) (string name)) ts (restart_of name items) rest
  a_new_list name items named (d, first, means) =
      let list = listed d items means in (
        d,
        first,
        ap (named_of_three (string word) (string name)) list.1 ∙ ap (λ w. named_of_three (string w) (string name) (array list.0)) named
            ∙ ap (option_map (restart_of name)) list.2,
      )

  pub a_new_start : (name : List ℕ) (its_start : Start) → word ≡ codes "strike" → MeansWithin depth start ts its_start rest
      → MeansWithin depth (named_of_three (string word) (string name)) ts (strike_at name its_start) rest
  a_new_start name its_start named (d, first, means) =
      let its = is_object d its_start means in
      let made : start (object its.0) ≡ Some its_start = ap start (sym its.1) ∙ means in (
        d,
        first,
        ap (named_of_three (string word) (string name)) its.1 ∙ ap (λ w. named_of_three (string w) (string name) (object its.0)) named
            ∙ ap (option_map (strike_at name)) made,
      )

-- a step of two values
pub a_step_of_two : (depth : ℕ) (word : List ℕ) (ts us rest : List Token) (n : NamedStep) → 0 < depth → MeansWithin (depth - 1) (named_of_two (string word)) ts n us → length us < length ts
    → after_end_array us ≡ Some rest → MeansWithin depth named_step (Token.begin_array ∷ Token.string word ∷ ts) n rest
a_step_of_two depth word ts us rest n some (d, last, means) less end = (
  array (item (string word) (item d no_items)),
  a_pair depth (Token.string word ∷ ts) ts us rest (string word) d some (a_text (depth - 1) word ts) last end (omega arith) less,
  means,
)

-- a step of three values
pub a_step_of_three : (depth : ℕ) (word name : List ℕ) (ts us rest : List Token) (n : NamedStep) → 0 < depth → MeansWithin (depth - 1) (named_of_three (string word) (string name)) ts n us
    → length us < length ts → after_end_array us ≡ Some rest → MeansWithin depth named_step (Token.begin_array ∷ Token.string word ∷ Token.string name ∷ ts) n rest
a_step_of_three depth word name ts us rest n some (d, last, means) less end =
    let named = Token.string name ∷ ts in
    let all = Token.string word ∷ named in
    let size = length all in (
      array (item (string word) (item (string name) (item d no_items))),
      a_list_of_values depth all rest (item (string word) (item (string name) (item d no_items))) some
          (one_more_value (depth - 1) size all named rest (string word) (item (string name) (item d no_items)) (omega arith) (a_text (depth - 1) word named)
          (one_more_value (depth - 1) (size - 1) named ts rest (string name) (item d no_items) (omega arith) (a_text (depth - 1) name ts)
          (one_more_value (depth - 1) (size - 1 - 1) ts us rest d no_items (omega (arith, less)) last (no_values (depth - 1) (size - 1 - 1 - 1) us rest (omega (arith, less)) end)))),
      means,
    )

-- an act
pub an_act : (depth : ℕ) (ts rest : List Token) (name : List ℕ) (act : LinkAct) → MeansWithin depth named_act ts (record { child = name; act = act }) rest
    → MeansWithin depth named_step ts (act_on name act) rest
an_act depth ts rest name act (d, first, means) = (d, first, act_is_named d (record { child = name; act = act }) means)
