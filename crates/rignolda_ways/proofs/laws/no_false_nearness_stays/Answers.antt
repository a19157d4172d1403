use Rattle.std.proofs.Common.{◌+◌, length, arith}
use Rattle.rignolda_ways.specs.Runs.{after_run}
use Rattle.rignolda_ways.proofs.Quality.{says_quality}
use Rattle.rignolda_ways.proofs.Reached.{begins, begins_good, run_sound}
use Rattle.rignolda_ways.proofs.laws.no_false_nearness_stays.Goals as goal

pub returns-clause-said : goal.returns-clause-said
returns-clause-said c net before start rounds further v far lawful run agent is_far some enough =
    let sound = run_sound net 0 before start rounds further lawful (begins net start) (begins_good net before) run in
    (says_quality net (0 + length rounds) v (after_run net start rounds further) lawful sound agent).low far (omega (arith, enough)) some is_far

pub returns-clause-heard : goal.returns-clause-heard
returns-clause-heard c net before start rounds further v far heard d lawful run agent below is is_at is_far some enough =
    let sound = run_sound net 0 before start rounds further lawful (begins net start) (begins_good net before) run in
    ((sound v agent below).backed heard d is is_at).low far (omega (arith, enough)) some is_far
