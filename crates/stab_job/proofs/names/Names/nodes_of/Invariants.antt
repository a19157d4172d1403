use Rattle.std.proofs.Common.{◌≡◌, ℕ, ◌<◌, [], length, get_or, Some}
use Rattle.stab_tree.specs.Nodes.{place_of}
use Rattle.stab_job.proofs.names.Names.nodes_of.Given as goal

-- there is a node for each name so far, which has it
abbrev pub invariant-each : goal.invariant-each
invariant-each l =
    (length l.nodes.items ≡ l.place)
    × ((k : ℕ) → k < l.place → place_of l.tree.names (get_or l.self k []) ≡ Some (get_or l.nodes.items k 0))
