use Rattle.rignolda_ways.proofs.TwoRounds.{lawful, one, run}
use Rattle.rignolda_ways.proofs.examples.a_run_of_two_rounds.Goals as goal

pub returns-clause-net : goal.returns-clause-net
returns-clause-net c = (lawful, one)

pub returns-clause-run : goal.returns-clause-run
returns-clause-run c = run
