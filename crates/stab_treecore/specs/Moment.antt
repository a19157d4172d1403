-- A moment from which is counted: what is in the links of a tree then, and what each node has for
-- each of its children. And the tree law of a node, counted from it.
-- Example: In the chain r, a, b of capacity 1 let a have 7 for b, and r have 8 for a. Then b
-- receives at most 1 + 1 + 1 = 3 strays, which are in the two queues or 7, and none is missing but
-- for some among the first 3 + 3 = 6 of what is published in its count: 8, and what comes later.
-- Source: this project's own.
use Rattle.std.specs.Prelude.{ℕ, zero, suc, ◌+◌, ◌*◌, List, [], ◌++◌, length, Option, is_some}
use Rattle.std.specs.Prelude.{if◌then◌else◌, option_and_then}
use Rattle.std.specs.Option.{option_map_or}
use Rattle.stab_tree.specs.Nodes.{parent_at, root_of}
use Rattle.stab_tree.specs.Steps.{depth_of}
use Rattle.stab_treecore.specs.Paths.{path_lists, path_sum}
use Rattle.stab_treecore.specs.SharperLaw.{SharperCompleteLaw, SharperTreeLaw, peak_above}
use Rattle.stab_treecore.specs.TreeLaw.{HalfTreeLaw, TreeLaw}

pub record Moment : Type 0 where
  pub parents : List (Option ℕ)
  -- the capacity of the link into a node, and the items in its frames
  pub capacity : ℕ → ℕ
  pub queued : ℕ → List ℕ
  -- what the parent of a node has for it: the item that its sender holds, and then those that are
  -- still to be offered
  pub backlog : ℕ → List ℕ

-- the backlog of an inner node for this child of it, which may be strays, since it may be anything;
-- that of the root counts as published
abbrev pub old_backlog : Moment → ℕ → List ℕ
old_backlog m w =
    if is_some (option_and_then (parent_at m.parents) (parent_at m.parents w))
    then m.backlog w else []

-- the most strays: the capacity of each link of the path, and the backlog of each inner node above
-- the node for the next one on the path
abbrev pub strays_since : Moment → ℕ → ℕ
strays_since m node = path_sum m.parents (λ w. m.capacity w + length (old_backlog m w)) node

-- how many of the first published items may be missing: 2c + 1 for each link
abbrev pub missing_since : Moment → ℕ → ℕ
missing_since m node = path_sum m.parents (λ w. 2 * m.capacity w + 1) node

-- and by the sharper law: 2c + 1 for one link, and c + 1 for each above it, where that is most
abbrev pub fewest_since : Moment → ℕ → ℕ
fewest_since m node = peak_above m.parents m.capacity (depth_of m.parents node) node

-- what the strays are of
abbrev pub garbage_since : Moment → ℕ → List ℕ
garbage_since m node = path_lists m.parents (λ w. m.queued w ++ old_backlog m w) node

-- what is published for a node at this depth: the root's backlog for its child on the path, and
-- what the root gained, that is published, since
abbrev pub published_above : Moment → (ℕ → List ℕ) → ℕ → ℕ → List ℕ
published_above m gained zero w = gained w
published_above m gained (suc zero) w = m.backlog w ++ gained (root_of m.parents)
published_above m gained (suc (suc count)) w =
    option_map_or (published_above m gained (suc count)) (parent_at m.parents w) []

abbrev pub published_since : Moment → (ℕ → List ℕ) → ℕ → List ℕ
published_since m gained node = published_above m gained (depth_of m.parents node) node

-- the tree law of a node that gained this list since the moment
abbrev pub LawSince : Moment → (ℕ → List ℕ) → ℕ → Type 0
LawSince m gained node =
    TreeLaw (strays_since m node) (missing_since m node) (garbage_since m node)
    (published_since m gained node) (gained node)

-- and the sharper one
abbrev pub SharperLawSince : Moment → (ℕ → List ℕ) → ℕ → Type 0
SharperLawSince m gained node =
    SharperTreeLaw (strays_since m node) (path_sum m.parents (λ w. m.capacity w + 1) node)
    (fewest_since m node) (garbage_since m node) (published_since m gained node) (gained node)

-- the complete law, where no more than the sharper one allows are missing
abbrev pub SharperCompleteSince : Moment → (ℕ → List ℕ) → ℕ → Type 0
SharperCompleteSince m gained node =
    SharperCompleteLaw (strays_since m node) (path_sum m.parents (λ w. m.capacity w + 1) node)
    (fewest_since m node) (garbage_since m node) (published_since m gained node) (gained node)

-- a child received few strays, which were queued or are what its parent had for it at the moment,
-- and then only what the parent received since, in that order
abbrev pub FollowsSince : Moment → (ℕ → List ℕ) → ℕ → ℕ → Type 0
FollowsSince m gained child parent =
    HalfTreeLaw (m.capacity child + length (m.backlog child)) (m.queued child ++ m.backlog child)
    (gained parent) (gained child)
