use Rattle.std.proofs.Common.{◌≡◌, ℕ, Some, length, slice_get}
use Rattle.rignolda_scenario.specs.Marks.{IsMarkOf}
use Rattle.rignolda_scenario.specs.declared.mark.Mark.{Mark}
use Rattle.rignolda_scenario.proofs.mark.first_marks.Given as goal

-- the nodes so far are marked
abbrev pub invariant-nodes : goal.invariant-nodes
invariant-nodes l =
    (length l.marks.items ≡ l.place)
    × ((node : ℕ) (mark : Mark) → slice_get l.marks.items node ≡ Some mark → (mark.step ≡ 0) × IsMarkOf l.state node mark)
