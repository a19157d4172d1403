use Rattle.std.proofs.Common.{◌≡◌, ◌++◌, drop}
use Rattle.stab_tree.specs.Links.{links_of}
use Rattle.rignolda_scenario.specs.Played.{reading_round_of}
use Rattle.rignolda_scenario.proofs.changes.reading_round_of_all.Given as goal

-- the rounds so far and those to come are all of them
abbrev pub invariant-links : goal.invariant-links
invariant-links l =
    l.events.items ++ reading_round_of (drop l.place (links_of l.job.tree.parents)) (drop l.place l.job.params)
    ≡ reading_round_of (links_of l.job.tree.parents) l.job.params
