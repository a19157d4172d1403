-- Rounds of a node's path, of one kind, among changes of a whole tree of which some may be faults
-- elsewhere; and how many of them bring a node all that was published.
-- Example: In the chain r, a, b of capacity 1 let r have 8 for a, and a have 7 for b. Then 1 + 1
-- items are to be handed on, the link into a can add 1, and 1 more is counted: 4 items, which go
-- through one link before the last. So 4 + 1 reading rounds of the two links are enough, and
-- 3 * 4 + 1 plain rounds.
-- Source: this project's own.
use Rattle.std.specs.Prelude.{◌≡◌, ℕ, zero, suc, ◌+◌, ◌*◌, ◌≤◌, List, [], ◌∷◌, ◌++◌, length, Some, false}
use Rattle.std.specs.Option.{option_map_or}
use Rattle.stab_core.specs.Link.{LinkValue}
use Rattle.stab_treecore.specs.declared.change.Change.{Change}
use Rattle.stab_treecore.specs.declared.change.Change.TheVariants.{Act, Publish, Restart, Strike}
use Rattle.stab_treecore.specs.Moment.{Moment}
use Rattle.stab_treecore.specs.Since.{capacity_at}
use Rattle.stab_rounds.specs.Kinds.{Kind, rounds_among, rounds_an_item}
use Rattle.stab_rounds.specs.TreeRounds.{acts_on}
use Rattle.stab_tree.specs.Nodes.{parent_at}
use Rattle.stab_tree.specs.Steps.{Reaches, depth_of}
use Rattle.stab_treecore.specs.declared.event.TreeEvent.{TreeEvent}
use Rattle.stab_treecore.specs.Paths.{path_sum}
use Rattle.stab_treecore.specs.WholeTree.{WholeTree, link_into}

-- the acts among these changes
abbrev pub acts_among : List Change → List TreeEvent
acts_among [] = []
acts_among (Act e ∷ changes) = e ∷ acts_among changes
acts_among (Publish items ∷ changes) = acts_among changes
acts_among (Strike child start ∷ changes) = acts_among changes
acts_among (Restart node list ∷ changes) = acts_among changes

-- each link of the node's path completes a round of this kind
abbrev pub IsPathRound : Kind → WholeTree → ℕ → List Change → Type 0
IsPathRound kind s node part =
    (w parent : ℕ) → Reaches s.parents node w → parent_at s.parents w ≡ Some parent
    → 1 ≤ rounds_among kind (capacity_at s w) (acts_on w (acts_among part))

-- the changes have `rounds` such rounds of the node's path, one after the other
abbrev pub PathRounds : Kind → WholeTree → ℕ → ℕ → List Change → Type 0
PathRounds kind s node zero changes = Unit {0}
PathRounds kind s node (suc rounds) changes =
    (part : List Change) × (rest : List Change) × (changes ≡ part ++ rest)
    × IsPathRound kind s node part × PathRounds kind s node rounds rest

-- on each link of the node's path at most `each` rounds of this kind acknowledge an item
abbrev pub TakesAtMost : Kind → ℕ → WholeTree → ℕ → Type 0
TakesAtMost kind each s node =
    (w parent : ℕ) → Reaches s.parents node w → parent_at s.parents w ≡ Some parent
    → rounds_an_item kind (capacity_at s w) ≤ each

-- no link of the node's path is closed
abbrev pub IsPathOpen : WholeTree → ℕ → Type 0
IsPathOpen t node =
    (w : ℕ) (link : LinkValue) → Reaches t.parents node w → link_into t w ≡ Some link
    → link.state.closed ≡ false

-- This number of rounds is enough: `each` for each item that a sender of the path has for the node
-- below it, for c items of each link of the path but the last, and for one more; and one for each
-- link of the path but the last.
abbrev pub rounds_since : ℕ → Moment → ℕ → ℕ
rounds_since each m node =
    each
    * (path_sum m.parents (λ w. length (m.backlog w)) node
    + option_map_or (path_sum m.parents m.capacity) (parent_at m.parents node) 0 + 1)
    + option_map_or (depth_of m.parents) (parent_at m.parents node) 0
