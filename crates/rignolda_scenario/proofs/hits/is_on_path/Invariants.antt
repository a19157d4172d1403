use Rattle.std.proofs.Common.{◌≡◌, ◌-◌, ◌<◌, length}
use Rattle.stab_tree.specs.Steps.{depth_of}
use Rattle.rignolda_scenario.specs.LastFault.{is_on_path, is_within}
use Rattle.rignolda_scenario.proofs.hits.is_on_path.Given as goal

-- what is left of the path decides
abbrev pub invariant-up : goal.invariant-up
invariant-up l =
    (l.at < length l.tree.parents)
    × (is_within l.tree.parents (depth_of l.tree.parents l.fn.node - l.counter) l.other l.at ≡ is_on_path l.tree.parents l.fn.node l.other)
