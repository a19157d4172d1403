use Rattle.std.proofs.Common.{◌∙◌, sym, arith}
use Rattle.stab_lock.proofs.Codes.{numbers_left, place_in_code, place_past_code}
use Rattle.stab_lock.proofs.packed.event_in_codes.Goals as goal

pub events-count-requires : goal.events-count-requires
events-count-requires c =
    omega (
      arith,
      numbers_left c.args.numbers.now c.loop-code.number c.args.codes.now c.loop-code.code-index
          c.code-item.result c.loop-code-test.true c.code-item.is c.loop-code.invariant.1,
    )

pub event-requires-clause-numbers : goal.event-requires-clause-numbers
event-requires-clause-numbers c =
    omega (
      arith,
      numbers_left c.args.numbers.now c.loop-code.number c.args.codes.now c.loop-code.code-index
          c.code-item.result c.loop-code-test.true c.code-item.is c.loop-code.invariant.1,
    )

pub overflow_add-number : goal.overflow_add-number
overflow_add-number c =
    omega (
      arith,
      c.numbers-number.ensures,
      numbers_left c.args.numbers.now c.loop-code.number c.args.codes.now c.loop-code.code-index
          c.code-item.result c.loop-code-test.true c.code-item.is c.loop-code.invariant.1,
    )

pub returns-then-left-count : goal.returns-then-left-count
returns-then-left-count c =
    sym c.event.ensures
    ∙ (sym (place_in_code c.args.numbers.now c.loop-code.number c.args.codes.now c.loop-code.code-index c.code-item.result
    c.loop-code-test.true c.code-item.is c.loop-code.left (rw c.events-count.ensures at c.if-left-count.true))
    ∙ c.loop-code.invariant.0)

pub loop-code-preserved : goal.loop-code-preserved
loop-code-preserved c = (
  rw (c.numbers-number.ensures, c.events-count.ensures)
      (place_past_code c.args.numbers.now c.loop-code.number c.args.codes.now c.loop-code.code-index c.code-item.result
      c.loop-code-test.true c.code-item.is c.loop-code.left (rw c.events-count.ensures at c.if-left-count.false)
      ∙ c.loop-code.invariant.0),
  rw c.numbers-number.ensures
      (numbers_left c.args.numbers.now c.loop-code.number c.args.codes.now c.loop-code.code-index c.code-item.result
      c.loop-code-test.true c.code-item.is c.loop-code.invariant.1),
)
