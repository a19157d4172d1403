-- A reading round of a whole tree, in which each link completes a reading round of its own; and how
-- many of them bring everything.
-- Source: this project's own.
use Rattle.std.specs.Prelude.{◌≡◌, ℕ, zero, suc, ◌+◌, ◌≤◌, List, ◌++◌, length, Some}
use Rattle.stab_tree.specs.Nodes.{parent_at}
use Rattle.stab_tree.specs.Steps.{depth_of}
use Rattle.stab_treecore.specs.declared.event.TreeEvent.{TreeEvent}
use Rattle.stab_treecore.specs.Network.{Network}
use Rattle.stab_treecore.specs.NodeLaws.{capacity_into, most_strays}
use Rattle.stab_rounds.specs.ReadingRounds.{offer, reading_from}
use Rattle.stab_rounds.specs.TreeRounds.{acts_on}

-- each link completes a reading round
abbrev pub IsReadingRound : Network → List TreeEvent → Type 0
IsReadingRound net part =
    (child parent : ℕ) → parent_at net.tree.parents child ≡ Some parent
    → 1 ≤ reading_from (capacity_into net child) offer (acts_on child part)

-- the events have `rounds` reading rounds of all links, one after the other
abbrev pub ReadingRounds : Network → ℕ → List TreeEvent → Type 0
ReadingRounds net zero events = Unit {0}
ReadingRounds net (suc rounds) events =
    (part : List TreeEvent) × (rest : List TreeEvent) × (events ≡ part ++ rest)
    × IsReadingRound net part × ReadingRounds net rounds rest

-- This number of reading rounds brings all that a node can have to its children: one for each item
-- that it can have, published or stray, one more, and one for each link on its path.
abbrev pub reading_rounds_below : Network → ℕ → ℕ
reading_rounds_below net parent =
    length net.published + most_strays net parent + 1 + depth_of net.tree.parents parent
