use Rattle.rignolda_ways.proofs.RingOfTwo.{lawful, run, stays}
use Rattle.rignolda_ways.proofs.examples.a_ring_in_one_round.Goals as goal

pub returns-clause-net : goal.returns-clause-net
returns-clause-net c = lawful

pub returns-clause-run : goal.returns-clause-run
returns-clause-run c = run

pub returns-clause-ring : goal.returns-clause-ring
returns-clause-ring c = stays
