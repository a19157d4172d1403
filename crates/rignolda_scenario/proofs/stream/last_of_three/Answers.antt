use Rattle.std.proofs.Common.{arith}
use Rattle.rignolda_scenario.proofs.Streamed.{a_new_list, a_new_start}
use Rattle.rignolda_scenario.proofs.stream.last_of_three.Goals as goal

pub returns-in-Some-clause-value : goal.returns-in-Some-clause-value
returns-in-Some-clause-value c =
    let means = rw c.in-Some.is at c.in_ok-items-in-restart.ensures.value in
    λ depth some. a_new_list depth c.args.reader.now c.next_items.new.reader c.args.word.now c.args.name.now c.in-Some.items c.in-restart.is (means depth (omega (arith, some)))

pub returns-in-Some-2-clause-value : goal.returns-in-Some-2-clause-value
returns-in-Some-2-clause-value c =
    let means = rw c.in-Some-2.is at c.in_ok-start-in-strike.ensures.value in
    λ depth some. a_new_start depth c.args.reader.now c.next_start.new.reader c.args.word.now c.args.name.now c.in-Some-2.start c.in-strike.is (means depth some)
