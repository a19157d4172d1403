use Rattle.std.proofs.Common.{◌≡◌, ◌∷◌, refl, sym, ap, ◌∙◌, arith}
use Rattle.json.specs.Token.{Token}
use Rattle.json.specs.Reads.{token_of}
use Rattle.serde_json.specs.Data.{unsigned, number, string, array, no_items, item}
use Rattle.stab_json.specs.Values.{most_u32}
use Rattle.stab_script.proofs.Meaning.{a_numbered_word}
use Rattle.stab_script.proofs.Plain.{numbered_event, no_answer, ends_at, goes_on}
use Rattle.stab_script.proofs.stream_event.listed_event.Goals as goal

pub returns-then-take_end_array-clause-value : goal.returns-then-take_end_array-clause-value
returns-then-take_end_array-clause-value c =
    let ts = c.next.new.self in
    let word = c.in-String.word.now in
    let n = c.in_ok-number.number in
    let is : c.args.reader.now ≡ Token.string word ∷ ts = c.in_ok-word.ensures.value ∙ ap (λ k. token_of k ∷ ts) c.in-String.is in (
      array (item (string word) (item (number (unsigned n)) no_items)),
      λ depth some. rw is (a_numbered_word depth word n ts c.next_whole.new.reader c.take_end_array.new.self some c.in_ok-number.ensures.value c.in_ok-number.ensures.shorter c.if-take_end_array.ensures),
      sym c.numbered_event.ensures,
    )

pub returns-in_err-number-clause-plain : goal.returns-in_err-number-clause-plain
returns-in_err-number-clause-plain c =
    let ts = c.next.new.self in
    let word = c.in-String.word.now in
    let is : c.args.reader.now ≡ Token.string word ∷ ts = c.in_ok-word.ensures.value ∙ ap (λ k. token_of k ∷ ts) c.in-String.is in
    λ rest p.
    let q = numbered_event c.args.reader.now ts rest word is p in
    let w = c.next_whole.ensures.plain most_u32 q.0 (omega arith) q.1 in
    absurd (no_answer c.in_err-number.was w.2)

pub returns-then-take_end_array-clause-plain : goal.returns-then-take_end_array-clause-plain
returns-then-take_end_array-clause-plain c =
    let ts = c.next.new.self in
    let word = c.in-String.word.now in
    let is : c.args.reader.now ≡ Token.string word ∷ ts = c.in_ok-word.ensures.value ∙ ap (λ k. token_of k ∷ ts) c.in-String.is in
    λ rest p.
    let q = numbered_event c.args.reader.now ts rest word is p in
    let w = c.next_whole.ensures.plain most_u32 q.0 (omega arith) q.1 in
    (refl, ends_at w.3 c.if-take_end_array.ensures q.2)

pub returns-else-take_end_array-clause-plain : goal.returns-else-take_end_array-clause-plain
returns-else-take_end_array-clause-plain c =
    let ts = c.next.new.self in
    let word = c.in-String.word.now in
    let is : c.args.reader.now ≡ Token.string word ∷ ts = c.in_ok-word.ensures.value ∙ ap (λ k. token_of k ∷ ts) c.in-String.is in
    λ rest p.
    let q = numbered_event c.args.reader.now ts rest word is p in
    let w = c.next_whole.ensures.plain most_u32 q.0 (omega arith) q.1 in
    absurd (goes_on w.3 c.if-take_end_array.ensures.0 q.2)
