use Rattle.rignolda_scenario.proofs.Streamed.{some_items, a_count, a_reading_count}
use Rattle.rignolda_scenario.proofs.stream.last_of_two.Goals as goal

pub returns-in-Some-clause-value : goal.returns-in-Some-clause-value
returns-in-Some-clause-value c =
    let means = rw c.in-Some.is at c.in_ok-items-in-publish.ensures.value in
    λ depth some. some_items depth c.args.reader.now c.next_items.new.reader c.args.word.now c.in-Some.items c.in-publish.is (means depth some)

pub returns-in-Some-next_u16-clause-value : goal.returns-in-Some-next_u16-clause-value
returns-in-Some-next_u16-clause-value c =
    let number = c.in-Some-next_u16 in
    λ depth some. a_count depth c.args.reader.now c.next_u16.new.reader c.args.word.now number.count c.in-rounds.is (number.ensures.value depth) number.ensures.small

pub returns-in-Some-next_u16-2-clause-value : goal.returns-in-Some-next_u16-2-clause-value
returns-in-Some-next_u16-2-clause-value c =
    let number = c.in-Some-next_u16-2 in
    λ depth some. a_reading_count depth c.args.reader.now c.next_u16-in-reading_rounds.new.reader c.args.word.now number.count c.in-reading_rounds.is (number.ensures.value depth) number.ensures.small
