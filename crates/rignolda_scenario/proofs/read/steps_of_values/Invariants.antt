use Rattle.std.proofs.Common.{◌≡◌, drop, length}
use Rattle.serde_json.specs.View.{items_view}
use Rattle.rignolda_scenario.specs.Scenarios.{steps_after}
use Rattle.rignolda_scenario.proofs.Stepwise.{behind}
use Rattle.rignolda_scenario.proofs.read.steps_of_values.Given as goal

-- the steps so far and those to come are all of them
abbrev pub invariant-loop-value : goal.invariant-loop-value
invariant-loop-value l =
    (length l.steps ≡ l.value-index)
    × (steps_after l.finder l.params 0 (items_view l.values)
    ≡ behind l.steps (steps_after l.finder l.params l.value-index (items_view (drop l.value-index l.values))))
