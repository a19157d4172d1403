use Rattle.std.proofs.Common.{◌≡◌, ◌∷◌, refl, sym, ap, ◌∙◌, subst}
use Rattle.json.specs.Token.{Token}
use Rattle.json.specs.Reads.{token_of}
use Rattle.serde_json.specs.Data.{null, boolean, unsigned, number, string}
use Rattle.stab_script.specs.Plain.{IsEvent}
use Rattle.stab_script.proofs.Meaning.{of_what_is_there}
use Rattle.stab_script.proofs.Standing.{a_text, a_number, a_truth, a_null}
use Rattle.stab_script.proofs.stream_event.next_event.Goals as goal

pub returns-in-String-clause-value : goal.returns-in-String-clause-value
returns-in-String-clause-value c =
    let rest = c.next.new.self in
    let word = c.in-String.word.now in
    let is : c.args.reader.now ≡ Token.string word ∷ rest = c.in_ok-word.ensures.value ∙ ap (λ k. token_of k ∷ rest) c.in-String.is in
    (string word, λ depth some. rw is (a_text depth word rest), sym c.word_event.ensures)

pub returns-in-BeginArray-clause-value : goal.returns-in-BeginArray-clause-value
returns-in-BeginArray-clause-value c =
    let ts = c.next.new.self in
    let is : c.args.reader.now ≡ Token.begin_array ∷ ts = c.in_ok-word.ensures.value ∙ ap (λ k. token_of k ∷ ts) c.in-BeginArray.is in
    of_what_is_there c.listed_event.result (λ e found. (found.0, λ depth some. rw is (found.1 depth some), found.2)) c.listed_event.ensures.value

pub returns-in-Some-clause-value : goal.returns-in-Some-clause-value
returns-in-Some-clause-value c =
    let rest = c.next.new.self in
    let text = c.in-Number.text.now in
    let n = c.in-Some.field-0 in
    let is : c.args.reader.now ≡ Token.number text ∷ rest = c.in_ok-word.ensures.value ∙ ap (λ k. token_of k ∷ rest) c.in-Number.is in
    (number (unsigned n), λ depth some. rw is (a_number depth text n rest c.in-Some.ensures.value), refl)

pub returns-in-Bool-clause-value : goal.returns-in-Bool-clause-value
returns-in-Bool-clause-value c =
    let rest = c.next.new.self in
    let truth = c.in-Bool.field-0 in
    let is : c.args.reader.now ≡ Token.boolean truth ∷ rest = c.in_ok-word.ensures.value ∙ ap (λ k. token_of k ∷ rest) c.in-Bool.is in
    (boolean truth, λ depth some. rw is (a_truth depth truth rest), refl)

pub returns-in-Null-clause-value : goal.returns-in-Null-clause-value
returns-in-Null-clause-value c =
    let rest = c.next.new.self in
    let is : c.args.reader.now ≡ Token.null ∷ rest = c.in_ok-word.ensures.value ∙ ap (λ k. token_of k ∷ rest) c.in-Null.is in
    (null, λ depth some. rw is (a_null depth rest), refl)

pub returns-in-BeginArray-clause-plain : goal.returns-in-BeginArray-clause-plain
returns-in-BeginArray-clause-plain c =
    let ts = c.next.new.self in
    let is : c.args.reader.now ≡ Token.begin_array ∷ ts = c.in_ok-word.ensures.value ∙ ap (λ k. token_of k ∷ ts) c.in-BeginArray.is in
    λ rest p. c.listed_event.ensures.plain rest (subst (λ us. IsEvent us rest) is p)
