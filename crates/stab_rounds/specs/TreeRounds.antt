-- A round of a whole tree: a part of a schedule in which each link completes a round of its own.
-- The rounds of the links may be mixed in any way. And how many of them bring everything.
-- Example: in a chain of two links, the round of the upper link and then that of the lower one are
-- a round of the tree; two rounds of the upper link are none.
-- Source: this project's own.
use Rattle.std.specs.Prelude.{◌≡◌, ℕ, zero, suc, ◌+◌, ◌*◌, ◌==◌, ◌≤◌, List, [], ◌∷◌, ◌++◌, length}
use Rattle.std.specs.Prelude.{Option, Some, false, if◌then◌else◌}
use Rattle.stab_core.specs.declared.act.LinkAct.{LinkAct}
use Rattle.stab_core.specs.Link.{LinkValue}
use Rattle.stab_tree.specs.Nodes.{parent_at}
use Rattle.stab_tree.specs.Steps.{depth_of}
use Rattle.stab_treecore.specs.declared.event.TreeEvent.{TreeEvent}
use Rattle.stab_treecore.specs.Network.{Network}
use Rattle.stab_treecore.specs.NodeLaws.{most_strays}
use Rattle.stab_treecore.specs.WholeTree.{WholeTree, link_into, received}
use Rattle.stab_rounds.specs.declared.round.Awaited.TheVariants as next
use Rattle.stab_rounds.specs.Rounds.{rounds_from}

-- the acts on the link into a node
abbrev pub acts_on : ℕ → List TreeEvent → List LinkAct
acts_on child [] = []
acts_on child (e ∷ events) =
    if e.child == child then e.act ∷ acts_on child events else acts_on child events

-- each link completes a round
abbrev pub IsTreeRound : List (Option ℕ) → List TreeEvent → Type 0
IsTreeRound parents part =
    (child parent : ℕ) → parent_at parents child ≡ Some parent
    → 1 ≤ rounds_from next.Offer (acts_on child part)

-- the events have `rounds` rounds of all links, one after the other
abbrev pub TreeRounds : List (Option ℕ) → ℕ → List TreeEvent → Type 0
TreeRounds parents zero events = Unit {0}
TreeRounds parents (suc rounds) events =
    (part : List TreeEvent) × (rest : List TreeEvent) × (events ≡ part ++ rest)
    × IsTreeRound parents part × TreeRounds parents rounds rest

-- no link is closed
abbrev pub IsOpen : WholeTree → Type 0
IsOpen t = (node : ℕ) (link : LinkValue) → link_into t node ≡ Some link → link.state.closed ≡ false

-- This number of rounds brings all that a node can have to its children, where no capacity is more
-- than the given c: 2c + 1 for each item that it can have, published or stray, 2c + 1 more, and one
-- for each link on its path.
abbrev pub rounds_below : Network → ℕ → ℕ → ℕ
rounds_below net capacity parent =
    (2 * capacity + 1) * (length net.published + most_strays net parent + 1)
    + depth_of net.tree.parents parent

-- All that a node has is acknowledged on the link into its child, and no frame is on its way there.
-- Whatever events come then, without a close or with one, this stays so.
abbrev pub IsHandedOn : WholeTree → ℕ → ℕ → Type 0
IsHandedOn t child parent =
    (link : LinkValue) × (link_into t child ≡ Some link)
    × (link.state.acked ≡ length (received t parent)) × (link.state.frames ≡ [])
