use Rattle.rignolda_ways.proofs.Rings.{no_long_ring, no_short_ring}
use Rattle.rignolda_ways.proofs.laws.no_ring_of_parents_stays.Goals as goal

pub returns-clause-short : goal.returns-clause-short
returns-clause-short c net before start rounds further ring steps run stays enough =
    no_short_ring net ring steps before start rounds further stays run enough

pub returns-clause-any : goal.returns-clause-any
returns-clause-any c net before start rounds further ring steps run stays enough =
    no_long_ring net ring steps before start rounds further stays run enough
