-- Which reports obey the laws of a network, and which part of a report is broken.
-- Example: The root r published 10, 11, 12, 13, 14. One link of capacity 1 leads into a, whose
-- start has one frame, with the item 99. A report says that r has these items, that a received 99,
-- 13 with 3 acknowledged, and that nobody ended with its upstream. It obeys: 10, 11, 12, 13 may
-- have been offered, 99 is a stray, and only items among the first 3 are missing. Had a received 99
-- alone with 4 acknowledged, `LinkLaw` would be broken at a, since 13 is acknowledged and missing.
-- So it would be had a received 13 alone, with 4 acknowledged: without a stray only the first 2 may
-- be missing, and 12 is the third.
-- Had r ended with its upstream, `HandedOn` would be broken at a, since 3 is not 5. Source: this
-- project's own.
use Rattle.std.specs.Prelude.{◌≡◌, ◌⊎◌, ℕ, ◌<◌, true, List, ◌++◌, length, Some, None}
use Rattle.std.specs.Prelude.{IsSome, MatchOption}
use Rattle.stab_tree.specs.Nodes.{parent_at, root_of}
use Rattle.stab_treecore.specs.Network.{Network}
use Rattle.stab_treecore.specs.NodeLaws.{capacity_into, garbage_into}
use Rattle.stab_tree.specs.NodeOpenings.{opening_at}
use Rattle.stab_treecore.specs.SharperLaw.{SharperTreeLawAtNodes}
use Rattle.stab_judge.specs.Judged.{SharperLawBelow}
use Rattle.stab_report.specs.EndedNodes.{AllHandOn, CompleteBelowEnded, HandsOn}
use Rattle.stab_report.specs.Reports.{ReportValue, OnePerNode, received_at, acked_at, has_ended}
use Rattle.stab_judge.specs.declared.broken.Broken.{Broken}
use Rattle.stab_judge.specs.declared.broken.Broken.TheVariants as broken

-- the root has the published items, and no link leads into it
pub record RootObeys (net : Network) (r : ReportValue) (root : ℕ) : Type 0 where
  pub published : received_at r root ≡ net.published
  pub uncounted : acked_at r root ≡ None

-- A child has its opening, and then what the link into it delivered; that obeys the sharper link law
-- under some prefix of the parent's list, of which the report says how many items are acknowledged.
pub record LinkObeys (net : Network) (r : ReportValue) (child parent : ℕ) : Type 0 where
  pub acked : ℕ
  pub counted : acked_at r child ≡ Some acked
  pub delivered : List ℕ
  pub has : received_at r child ≡ opening_at net.openings.lists child ++ delivered
  pub law : SharperLawBelow (capacity_into net child) (garbage_into net child)
      (received_at r parent) acked delivered

-- what is asked of one node: of the root, or of a child of this parent
abbrev pub NodeObeys : Network → ReportValue → ℕ → Type 0
NodeObeys net r node =
    MatchOption (parent_at net.tree.parents node) (RootObeys net r node)
    (λ parent. LinkObeys net r node parent
    × HandsOn r node parent (received_at r parent))

-- the report obeys the laws of the network
pub record Obeys (net : Network) (r : ReportValue) : Type 0 where
  pub entries : OnePerNode net.tree.parents r
  pub root : RootObeys net r (root_of net.tree.parents)
  pub links : (child parent : ℕ) → parent_at net.tree.parents child ≡ Some parent
      → LinkObeys net r child parent
  pub handed_on : AllHandOn net.tree.parents r
  pub tree_law : SharperTreeLawAtNodes net (received_at r)
  pub complete : CompleteBelowEnded net r

-- this part of the report is broken
abbrev pub IsBroken : Network → ReportValue → Broken → Type 0
IsBroken net r broken.Entries = ¬ OnePerNode net.tree.parents r
IsBroken net r broken.Published = ¬ (received_at r (root_of net.tree.parents) ≡ net.published)
IsBroken net r broken.RootCount = IsSome (acked_at r (root_of net.tree.parents))
IsBroken net r (broken.NoCount child) =
    IsSome (parent_at net.tree.parents child) × (acked_at r child ≡ None)
IsBroken net r (broken.Opening child) =
    IsSome (parent_at net.tree.parents child)
    × ((delivered : List ℕ)
    → ¬ (received_at r child ≡ opening_at net.openings.lists child ++ delivered))
IsBroken net r (broken.LinkLaw child) =
    (parent acked : ℕ) × (delivered : List ℕ)
    × (parent_at net.tree.parents child ≡ Some parent)
    × (acked_at r child ≡ Some acked)
    × (received_at r child ≡ opening_at net.openings.lists child ++ delivered)
    × ¬ SharperLawBelow (capacity_into net child) (garbage_into net child)
    (received_at r parent) acked delivered
IsBroken net r (broken.HandedOn child) =
    (parent : ℕ) × (parent_at net.tree.parents child ≡ Some parent)
    × (has_ended r parent ≡ true)
    × ¬ (acked_at r child ≡ Some (length (received_at r parent)))

-- the node at which a part is broken, where it is at one
abbrev pub place_of : Network → Broken → ℕ
place_of net broken.Entries = 0
place_of net broken.Published = root_of net.tree.parents
place_of net broken.RootCount = root_of net.tree.parents
place_of net (broken.NoCount child) = child
place_of net (broken.Opening child) = child
place_of net (broken.LinkLaw child) = child
place_of net (broken.HandedOn child) = child

-- each node before the broken one obeys
abbrev pub IsFirst : Network → ReportValue → Broken → Type 0
IsFirst net r part =
    (earlier : ℕ) → earlier < place_of net part → NodeObeys net r earlier

-- which part of one node is looked at first: the parts in their order
abbrev pub turn_of : Broken → ℕ
turn_of broken.Entries = 0
turn_of broken.Published = 1
turn_of broken.RootCount = 2
turn_of (broken.NoCount child) = 3
turn_of (broken.Opening child) = 4
turn_of (broken.LinkLaw child) = 5
turn_of (broken.HandedOn child) = 6

-- a part is looked at before another one: at an earlier node, or earlier at the same node
abbrev pub IsBefore : Network → Broken → Broken → Type 0
IsBefore net part other =
    (place_of net part < place_of net other)
    ⊎ ((place_of net part ≡ place_of net other) × (turn_of part < turn_of other))

-- FIRST BROKEN: this part is broken, and none that is looked at before it
pub record IsFirstBroken (net : Network) (r : ReportValue) (part : Broken) : Type 0 where
  pub broken : IsBroken net r part
  pub first : (earlier : Broken) → IsBefore net earlier part → ¬ IsBroken net r earlier
