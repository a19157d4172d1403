-- Where the count of a node begins, by as much of the state of that moment as its lines need.
-- Example: In the chain r, a, b let r have the items 7, 8 and 9 when a is struck, and its sender
-- hold 8 and have offered no more. The mark of b has 8 as held, and goes on with the third item.
-- Source: this project's own.
use Rattle.std.specs.Prelude.{◌≡◌, ◌⊎◌, ◌≤◌, ℕ, List, ◌++◌, drop, length, IsFalse, IsTrue, Option, Some}
use Rattle.std.specs.Prelude.{slice_get}
use mathlib.Core.List.{IsPrefix}
use Rattle.stab_job.specs.JobValues.{JobValue, network}
use Rattle.stab_tree.specs.Nodes.{root_of}
use Rattle.stab_tree.specs.Steps.{depth_of}
use Rattle.stab_treecore.specs.Moment.{missing_since, published_since, strays_since}
use Rattle.stab_treecore.specs.Network.{Network}
use Rattle.stab_treecore.specs.NodeLaws.{capacity_into}
use Rattle.stab_treecore.specs.Since.{capacity_at, gained, moment}
use Rattle.stab_treecore.specs.WholeTree.{WholeTree, received}
use Rattle.rignolda_scenario.specs.declared.mark.Mark.{Mark}
use Rattle.rignolda_scenario.specs.declared.step.Step.{Step}
use Rattle.rignolda_scenario.specs.Counts.{state_since}
use Rattle.rignolda_scenario.specs.LastFault.{hits, last_fault}

-- what is published for a node since the state `s` is the held items, and then the root's list from
-- a place on, whatever the root adds to it
abbrev pub IsPublishedFrom : WholeTree → ℕ → List ℕ → ℕ → Type 0
IsPublishedFrom s node held from =
    (t : WholeTree) → 1 ≤ depth_of s.parents node
    → IsPrefix (received s (root_of s.parents)) (received t (root_of s.parents))
    → held ++ drop from (received t (root_of s.parents))
    ≡ published_since (moment s) (gained s t) node

-- the mark of a node at this state
abbrev pub IsMarkOf : WholeTree → ℕ → Mark → Type 0
IsMarkOf s node mark =
    (mark.received ≡ length (received s node)) × (mark.strays ≡ strays_since (moment s) node)
    × (mark.missing ≡ missing_since (moment s) node)
    × IsPublishedFrom s node mark.held.items mark.from

-- the mark of a node after the step of this number, which left the state `s`: a new one if the step
-- hits the node, and else the old one
abbrev pub IsMarkAfter : List (Option ℕ) → WholeTree → ℕ → Step → ℕ → Mark → Mark → Type 0
IsMarkAfter parents s number step node old new =
    (IsTrue (hits parents node step) × (new.step ≡ number) × IsMarkOf s node new)
    ⊎ (IsFalse (hits parents node step) × (new ≡ old))

-- a judge is that of the network of a job, and a state is one of its tree
abbrev pub IsOfJob : JobValue → Network → WholeTree → Type 0
IsOfJob j judge s =
    (judge ≡ network j) × (s.parents ≡ j.tree.parents)
    × ((w : ℕ) → capacity_at s w ≡ capacity_into (network j) w)

-- the mark of each node after these steps
abbrev pub AreMarks : JobValue → List Step → List Mark → Type 0
AreMarks j steps marks =
    (node : ℕ) (mark : Mark) → slice_get marks node ≡ Some mark
    → (mark.step ≡ last_fault j.tree.parents node steps)
    × IsMarkOf (state_since j steps node) node mark
