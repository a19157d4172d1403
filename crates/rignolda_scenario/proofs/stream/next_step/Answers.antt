use Rattle.std.proofs.Common.{◌≡◌, ◌∷◌, ap, ◌∙◌}
use Rattle.json.specs.Token.{Token}
use Rattle.json.specs.Reads.{token_of}
use Rattle.rignolda_scenario.proofs.stream.next_step.Goals as goal

pub returns-clause-value : goal.returns-clause-value
returns-clause-value c =
    let ts = c.next.new.self in
    let us = c.next-2.new.self in
    let opened : c.args.reader.now ≡ Token.begin_array ∷ ts = c.in-Some-BeginArray.ensures.value ∙ ap (λ k. token_of k ∷ ts) c.in-Some-BeginArray.field-0-is in
    let begun : ts ≡ Token.string c.in-Some-String.first.now ∷ us = c.in-Some-String.ensures.value ∙ ap (λ k. token_of k ∷ us) c.in-Some-String.field-0-is in
    rw (opened ∙ ap (λ r. Token.begin_array ∷ r) begun) c.step_after.ensures.value
