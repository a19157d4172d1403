-- The count of a node that the code's record lends.
-- Source: this project's own.
use Rattle.std.specs.Prelude.{◌++◌}
use Rattle.rignolda_scenario.specs.Counts.{Counted}
use Rattle.rignolda_scenario.specs.declared.text.NodeCount.{NodeCount}

abbrev pub counted_of : NodeCount → Counted
counted_of c = record {
  since = c.since;
  gained = c.gained.now;
  strays = c.strays;
  missing = c.missing;
  published = c.held.now ++ c.published.now;
}
