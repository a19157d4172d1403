-- Which logs obey the laws since a moment at which nobody knows what was in the links and what the
-- nodes had for one another, and at which node which part is broken. Each node has its own moment,
-- and that of a child is not before that of its parent.
-- Example: In the chain r, a, b of capacity 1, where an inner node has at most 2 items for a child,
-- b may have received 1 + 1 + 2 = 4 strays, and of what is published in its count some of the first
-- 2 + 2 = 4 items may be missing before its last one, and of one more for each stray, but at most
-- of the first 2 + 3 = 5. If 10 to 19 are published and a received 97, 13, 14, it obeys: 97 is its
-- one stray, so 10, 11 and 12 may be missing. Had it received 97, 98, 13, the part `Strays` would
-- be broken at a. Had it received 97, 13, 15, or 13 and 14 alone, the part `Missing` would be: 14
-- is not among the first 3, and 12 not among the first 2. If b received 13, 14, 15, 16, the part
-- `Parent` is broken at b: only 1 + 2 = 3 of these can be strays on their way from a, which received
-- no 16.
-- Source: this project's own.
use Rattle.std.specs.Prelude.{◌≡◌, ◌+◌, ◌<◌, ◌≤◌, ⊤, ℕ, List, ◌++◌, length, drop, MatchOption}
use Rattle.std.specs.Prelude.{if◌then◌else◌}
use Rattle.std.specs.Prelude.{Option, Some, option_and_then, is_some}
use Rattle.stab_treecore.specs.Moment.{Moment, old_backlog, published_since}
use Rattle.stab_tree.specs.Nodes.{parent_at}
use Rattle.stab_treecore.specs.Network.{Network}
use Rattle.stab_treecore.specs.NodeLaws.{capacity_into}
use Rattle.stab_treecore.specs.Paths.{path_sum}
use Rattle.stab_treecore.specs.SharperLaw.{SharperTreeLaw, fewest_missing, missing_without_strays}
use Rattle.stab_treecore.specs.TreeLaw.{HalfTreeLaw}
use Rattle.rignolda_since.specs.Logs.{LogsValue, from_at, received_at}
use Rattle.rignolda_since.specs.declared.broken_log.BrokenLog.{BrokenLog}
use Rattle.rignolda_since.specs.declared.broken_log.BrokenLog.TheVariants as broken

-- the most items that the parent of a node had for it and that count as strays: none where the
-- parent is the root, since what the root had for it counts as published
abbrev pub kept_for : List (Option ℕ) → ℕ → ℕ → ℕ
kept_for parents hold node =
    if is_some (option_and_then (parent_at parents) (parent_at parents node)) then hold else 0

-- the most strays at a node, C + E: for each link of its path the capacity, and what the node above
-- it may have had
abbrev pub strays_at : Network → ℕ → ℕ
strays_at net node =
    path_sum net.tree.parents
    (λ w. capacity_into net w + kept_for net.tree.parents net.openings.hold w) node

-- the items that are published in the count of a node
abbrev pub counted : Network → LogsValue → ℕ → List ℕ
counted net logs node = drop (from_at logs node) net.published

-- what a node received are strays, at most C + E, whatever they are, and then items of its count in
-- their order, each at most once
pub record IsOrdered (net : Network) (logs : LogsValue) (node : ℕ) : Type 0 where
  pub garbage : List ℕ
  pub law : HalfTreeLaw (strays_at net node) garbage (counted net logs node)
      (received_at logs node)

-- the same by the sharper law: before the last of these items few of the first ones are missing
pub record ObeysAlone (net : Network) (logs : LogsValue) (node : ℕ) : Type 0 where
  pub garbage : List ℕ
  pub law : SharperTreeLaw (strays_at net node) (missing_without_strays net node)
      (fewest_missing net node) garbage (counted net logs node) (received_at logs node)

-- the most strays of a child in its parent's eyes: what was in the link and what the parent had
abbrev pub strays_into : Network → ℕ → ℕ
strays_into net child =
    capacity_into net child + kept_for net.tree.parents net.openings.hold child

-- what a child received are few strays, whatever they are, and then items that its parent received,
-- in that order, each at most once
pub record Follows (net : Network) (logs : LogsValue) (child parent : ℕ) : Type 0 where
  pub garbage : List ℕ
  pub law : HalfTreeLaw (strays_into net child) garbage (received_at logs parent)
      (received_at logs child)

-- a node follows its parent, if that is an inner node: what the root received is what is published
abbrev pub FollowsParent : Network → LogsValue → ℕ → Type 0
FollowsParent net logs node =
    MatchOption (parent_at net.tree.parents node) ⊤
    (λ parent. MatchOption (parent_at net.tree.parents parent) ⊤
    (λ above. Follows net logs node parent))

-- the log of a node obeys
pub record LogObeys (net : Network) (logs : LogsValue) (node : ℕ) : Type 0 where
  pub alone : ObeysAlone net logs node
  pub follows : FollowsParent net logs node

-- the logs obey the laws
pub record ObeysLogs (net : Network) (logs : LogsValue) : Type 0 where
  pub nodes : (node : ℕ) → node < length net.tree.parents → LogObeys net logs node

-- this part is broken
abbrev pub IsBrokenLog : Network → LogsValue → BrokenLog → Type 0
IsBrokenLog net logs (broken.Strays node) = ¬ IsOrdered net logs node
IsBrokenLog net logs (broken.Missing node) = IsOrdered net logs node × ¬ ObeysAlone net logs node
IsBrokenLog net logs (broken.Parent node) =
    ObeysAlone net logs node × ¬ FollowsParent net logs node

-- the node at which a part is broken
abbrev pub place_of : BrokenLog → ℕ
place_of (broken.Strays node) = node
place_of (broken.Missing node) = node
place_of (broken.Parent node) = node

-- each node before the broken one obeys
abbrev pub IsFirstLog : Network → LogsValue → BrokenLog → Type 0
IsFirstLog net logs part = (earlier : ℕ) → earlier < place_of part → LogObeys net logs earlier

-- this was so at the moment of a node: the tree and the capacities are those of the network, and no inner
-- node had more for a child than it may have
pub record IsMomentOf (net : Network) (m : Moment) : Type 0 where
  pub parents : m.parents ≡ net.tree.parents
  pub capacities : (w : ℕ) → m.capacity w ≡ capacity_into net w
  pub kept : (w : ℕ)
      → length (old_backlog m w) ≤ kept_for net.tree.parents net.openings.hold w

-- The logs say of a node what it gained since the moment, and its count has what is published in it.
-- The log of its parent, if that is an inner node, reaches back as far at least: it ends with what
-- that gained since.
pub record IsLogOf (net : Network) (logs : LogsValue) (m : Moment) (gain : ℕ → List ℕ) (node : ℕ)
    : Type 0 where
  pub received : received_at logs node ≡ gain node
  pub counted : counted net logs node ≡ published_since m gain node
  pub reaches_back : (parent above : ℕ) → parent_at net.tree.parents node ≡ Some parent
      → parent_at net.tree.parents parent ≡ Some above
      → (earlier : List ℕ) × (received_at logs parent ≡ earlier ++ gain parent)
