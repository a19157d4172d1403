use Rattle.std.proofs.Common.{◌≡◌, ◌∷◌, ap, ◌∙◌}
use Rattle.json.specs.Token.{Token}
use Rattle.json.specs.Reads.{token_of}
use Rattle.stab_script.proofs.Meaning.{of_what_is_there}
use Rattle.stab_script.proofs.Standing.{a_number}
use Rattle.stab_script.proofs.number.next_whole.Goals as goal

pub returns-in-Number-clause-value : goal.returns-in-Number-clause-value
returns-in-Number-clause-value c =
    let rest = c.next.new.self in
    let text = c.in-Number.text.now in
    let is : c.args.reader.now ≡ Token.number text ∷ rest = c.in_ok-text.ensures.value ∙ ap (λ k. token_of k ∷ rest) c.in-Number.is in
    of_what_is_there c.whole_of.result (λ n read depth. rw is (a_number depth text n rest read)) c.whole_of.ensures.value
