use Rattle.std.proofs.Common.{◌≡◌, ◌-◌, ◌∷◌, ap, ◌∙◌, arith}
use Rattle.json.specs.Token.{Token}
use Rattle.json.specs.Reads.{token_of}
use Rattle.rignolda_scenario.specs.NamedSteps.{named_of}
use Rattle.rignolda_scenario.proofs.Streamed.{a_step_of_three}
use Rattle.rignolda_scenario.proofs.stream.next_of_three.Goals as goal

pub returns-then-take_end_array-clause-value : goal.returns-then-take_end_array-clause-value
returns-then-take_end_array-clause-value c =
    let ts = c.next.new.self in
    let name = c.in-Some-String.name.now in
    let is : c.args.reader.now ≡ Token.string name ∷ ts = c.in-Some-String.ensures.value ∙ ap (λ k. token_of k ∷ ts) c.in-Some-String.field-0-is in
    let means = rw c.in-Some.is at c.in_ok-step.ensures.value in
    let less = rw c.in-Some.is at c.in_ok-step.ensures.shorter in
    λ depth some. rw is (a_step_of_three depth c.args.word.now name ts c.last_of_three.new.reader c.take_end_array.new.self (named_of c.in-Some.step) (omega (arith, some))
    (means (depth - 1) (omega (arith, some))) less c.if-take_end_array.ensures)
