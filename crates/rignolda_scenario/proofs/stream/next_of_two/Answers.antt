use Rattle.std.proofs.Common.{◌-◌, arith}
use Rattle.rignolda_scenario.specs.NamedSteps.{named_of}
use Rattle.rignolda_scenario.proofs.Streamed.{a_step_of_two}
use Rattle.rignolda_scenario.proofs.stream.next_of_two.Goals as goal

pub returns-then-take_end_array-clause-value : goal.returns-then-take_end_array-clause-value
returns-then-take_end_array-clause-value c =
    let means = rw c.in-Some.is at c.in_ok-step.ensures.value in
    let less = rw c.in-Some.is at c.in_ok-step.ensures.shorter in
    λ depth some. a_step_of_two depth c.args.word.now c.args.reader.now c.last_of_two.new.reader c.take_end_array.new.self (named_of c.in-Some.step) (omega (arith, some))
    (means (depth - 1) (omega (arith, some))) less c.if-take_end_array.ensures
