use Rattle.std.proofs.Common.{◌≡◌, ◌<◌, ◌≤◌, ℕ, Some, length, slice_get}
use Rattle.rignolda_scenario.specs.Marks.{IsMarkAfter}
use Rattle.rignolda_scenario.specs.declared.mark.Mark.{Mark}
use Rattle.rignolda_scenario.proofs.mark.mark_hit.Given as goal

-- the nodes so far are marked, and the others have the marks that they had
abbrev pub invariant-nodes : goal.invariant-nodes
invariant-nodes l =
    (length l.marks.items ≡ length l.fn.marks.items)
    × ((node : ℕ) (mark : Mark) → node < l.place → slice_get l.marks.items node ≡ Some mark
    → (old : Mark) × (slice_get l.fn.marks.items node ≡ Some old)
    × IsMarkAfter l.job.tree.parents l.state l.number l.step node old mark)
    × ((node : ℕ) → l.place ≤ node → slice_get l.marks.items node ≡ slice_get l.fn.marks.items node)
