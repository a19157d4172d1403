use Rattle.std.proofs.Common.{arith}
use Rattle.rignolda_ways.proofs.Reached.{begins, begins_good, run_keeps_then}
use Rattle.rignolda_ways.proofs.laws.parents_are_kept.Goals as goal

pub returns : goal.returns
returns c net before start rounds more further v distance lawful run agent below is some enough =
    run_keeps_then net 0 before start rounds more further lawful (begins net start) (begins_good net before) run
    v agent below distance (omega (arith, enough)) some is
