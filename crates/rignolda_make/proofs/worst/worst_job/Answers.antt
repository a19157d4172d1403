use Rattle.std.proofs.Common.{arith}
use Rattle.rignolda_make.proofs.Counting.{few_events}
use Rattle.rignolda_make.proofs.worst.worst_job.Goals as goal

pub returns-clause-no_smaller : goal.returns-clause-no_smaller
returns-clause-no_smaller c =
    let lawful = c.capacity-capacity.ensures.lawful in
    rw (c.in_ok-worst_start.ensures, c.in_ok-worst_events.ensures, c.capacity-capacity.ensures.capacity)
    (λ strays missing. c.bounds_are_reached.ensures.no_smaller c.args.params 10 900 strays missing lawful (omega (arith, lawful.small_capacity)))

pub returns-clause-few_events : goal.returns-clause-few_events
returns-clause-few_events c =
    rw (c.in_ok-worst_events.ensures, c.capacity-capacity.ensures.capacity)
    (few_events c.args.params.capacity 10 c.capacity-capacity.ensures.lawful.small_capacity)
