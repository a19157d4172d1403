use Rattle.std.proofs.Common.{◌+◌, length, arith}
use Rattle.rignolda_ways.specs.Runs.{after_run}
use Rattle.rignolda_ways.specs.Turns.{says}
use Rattle.rignolda_ways.proofs.Named.{all_names, begins_traced, run_traced, says_ends}
use Rattle.rignolda_ways.proofs.laws.said_ways_are_real.Goals as goal

pub returns : goal.returns
returns c net before start rounds further v lawful have run agent many =
    let end = after_run net start rounds further in
    let traced = run_traced net 0 before start rounds further lawful (begins_traced net start have) tt run in
    all_names net (0 + length rounds) v (says net end v).names lawful agent (omega (arith, many))
    (says_ends net (0 + length rounds) v end traced agent)
