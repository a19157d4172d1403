use Rattle.std.proofs.Common.{◌≡◌, ◌-◌, ◌∷◌, ap, ◌∙◌, arith}
use Rattle.json.specs.Token.{Token}
use Rattle.json.specs.Reads.{token_of}
use Rattle.stab_script.specs.Members.{in_member}
use Rattle.stab_script.proofs.Standing.{a_list}
use Rattle.rignolda_scenario.specs.NamedSteps.{named_step}
use Rattle.rignolda_scenario.proofs.stream.StepListBeside.next.Goals as goal

pub returns-clause-value : goal.returns-clause-value
returns-clause-value c =
    let ts = c.next.new.self in
    let is : c.args.reader.now ≡ Token.begin_array ∷ ts = c.in-Some-BeginArray.ensures.value ∙ ap (λ k. token_of k ∷ ts) c.in-Some-BeginArray.field-0-is in
    let inside = rw c.in-Some.is at c.in_ok-steps.ensures.value in
    rw is (a_list in_member named_step ts c.rest_of_steps.new.reader c.in-Some.steps (omega arith) (inside (in_member - 1) (omega arith)))
