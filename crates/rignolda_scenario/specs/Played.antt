-- The changes of the tree that steps are: each change, and the acts of each round of all links.
-- Example: In the chain r, a, b one round is five acts on the link into a and then five on the link
-- into b. One reading round of links of capacity 1 is seven acts on each.
-- Source: this project's own.
use Rattle.std.specs.Prelude.{◌≡◌, ℕ, zero, suc, List, [], ◌∷◌, ◌++◌, map, Option}
use Rattle.stab_frames.specs.Parameters.{Parameters}
use Rattle.stab_rounds.specs.TreePlayed.{reading_round_on, round_from}
use Rattle.stab_tree.specs.Links.{links_of}
use Rattle.stab_treecore.specs.declared.event.TreeEvent.{TreeEvent}
use Rattle.stab_treecore.specs.declared.change.Change.{Change}
use Rattle.stab_treecore.specs.declared.change.Change.TheVariants.{Act}
use Rattle.stab_treecore.specs.ChangeRefusals.{AllCanBeMade}
use Rattle.stab_treecore.specs.Changes.{changes_replay}
use Rattle.stab_treecore.specs.WholeTree.{WholeTree}
use Rattle.rignolda_scenario.specs.declared.step.Step.{Step}
use Rattle.rignolda_scenario.specs.declared.step.Step.TheVariants.{One, Rounds, ReadingRounds}

-- a reading round of each of the links into these nodes, which have these parameters: each takes as
-- many messages before it sends as its capacity says
abbrev pub reading_round_of : List ℕ → List Parameters → List TreeEvent
reading_round_of [] params = []
reading_round_of (child ∷ children) [] = []
reading_round_of (child ∷ children) (own ∷ params) =
    reading_round_on own.capacity child [] ++ reading_round_of children params

-- these events as changes
abbrev pub acts : List TreeEvent → List Change
acts events = map Act events

-- these events, `times` times over
abbrev pub repeated : ℕ → List TreeEvent → List Change
repeated zero events = []
repeated (suc times) events = acts events ++ repeated times events

-- the changes that a step is
abbrev pub changes_in : List (Option ℕ) → List Parameters → Step → List Change
changes_in parents params (One change) = change ∷ []
changes_in parents params (Rounds count) = repeated count (round_from 0 parents)
changes_in parents params (ReadingRounds count) =
    repeated count (reading_round_of (links_of parents) params)

-- the changes that these steps are
abbrev pub changes_of : List (Option ℕ) → List Parameters → List Step → List Change
changes_of parents params [] = []
changes_of parents params (step ∷ steps) =
    changes_in parents params step ++ changes_of parents params steps

-- the most changes that steps may be
abbrev pub most_changes : ℕ
most_changes = 1000000

-- these changes can all be made of the state `t`, and leave the state `u`
abbrev pub Makes : WholeTree → List Change → WholeTree → Type 0
Makes t changes u = (u ≡ changes_replay t changes) × AllCanBeMade t changes
