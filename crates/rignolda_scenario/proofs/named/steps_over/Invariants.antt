use Rattle.std.proofs.Common.{◌≡◌, List, ℕ, map, length}
use Rattle.std.specs.Vec.Iter.{into_iter_items, into_iter_len}
use Rattle.stab_job.specs.Steps.{AreNodesOf}
use Rattle.rignolda_scenario.specs.NamedSteps.{named_in}
use Rattle.rignolda_scenario.proofs.Tabled.{FoundBefore}
use Rattle.rignolda_scenario.proofs.named.steps_over.Given as goal

-- whatever the steps that are left are in the tree, those that were found go before them
abbrev pub invariant-each : goal.invariant-each
invariant-each l =
    ((names : List (List ℕ)) → AreNodesOf l.tree.names names l.nodes
    → FoundBefore l.tree l.params (map (named_in names) l.fn.steps.items) l.its_steps (map (named_in names) (into_iter_items l.step-iterator)))
    × (into_iter_len l.step-iterator ≡ length (into_iter_items l.step-iterator))
