-- Which reports obey the laws since a moment, and which part of a report is broken.
-- Example: In the chain r, a, b of capacity 1 let a have 7 for b at the moment, and nothing be
-- queued. A report says that r published 8, that a received 8 with 1 acknowledged, and that b
-- received 7, 8 with 2 acknowledged. It obeys: 7 and 8 are what a had for b and received since. Had
-- b received 9, the link law would be broken there. The link law is the sharper one.
-- Source: this project's own.
use Rattle.std.specs.Prelude.{◌≡◌, ◌<◌, ℕ, true, List, ◌++◌, length, Some, IsSome, None}
use Rattle.std.specs.Prelude.{MatchOption}
use Rattle.stab_treecore.specs.Moment.{Moment, SharperLawSince}
use Rattle.stab_judge.specs.Judged.{SharperLawBelow}
use Rattle.stab_judge.specs.EndedNodes.{HandsOn}
use Rattle.stab_judge.specs.Obeys.{RootObeys}
use Rattle.stab_judge.specs.Reports.{ReportValue, OnePerNode, received_at, acked_at, has_ended}
use Rattle.stab_tree.specs.Nodes.{parent_at, root_of}
use Rattle.stab_treecore.specs.Network.{Network}
use Rattle.stab_treecore.specs.NodeLaws.{capacity_into, garbage_into}
use Rattle.rignolda_since.specs.Backlogs.{backlog_at}
use Rattle.rignolda_since.specs.declared.broken.BrokenSince.{BrokenSince}
use Rattle.rignolda_since.specs.declared.broken.BrokenSince.TheVariants as broken

-- the moment that a network and its backlogs are: what is queued in a link is in its start
abbrev pub moment_of : Network → List (List ℕ) → Moment
moment_of net lists =
    record {
      parents = net.tree.parents;
      capacity = capacity_into net;
      queued = garbage_into net;
      backlog = backlog_at lists;
    }

-- all that a parent had for its child at the moment, and what it received since
abbrev pub above_since : List (List ℕ) → ReportValue → ℕ → ℕ → List ℕ
above_since lists r child parent = backlog_at lists child ++ received_at r parent

-- what a child received obeys the sharper link law, under some prefix of what its parent had for it and
-- received, of which the report says how many items are acknowledged
abbrev pub LinkObeysSince : Network → List (List ℕ) → ReportValue → ℕ → ℕ → Type 0
LinkObeysSince net lists r child parent =
    (acked : ℕ) × (acked_at r child ≡ Some acked)
    × SharperLawBelow (capacity_into net child) (garbage_into net child)
    (above_since lists r child parent) acked (received_at r child)

-- what is asked of one node: of the root, or of a child of this parent
abbrev pub NodeObeysSince : Network → List (List ℕ) → ReportValue → ℕ → Type 0
NodeObeysSince net lists r node =
    MatchOption (parent_at net.tree.parents node) (RootObeys net r node)
    (λ parent. LinkObeysSince net lists r node parent
    × HandsOn r node parent (above_since lists r node parent))

-- the report obeys the laws since the moment
pub record ObeysSince (net : Network) (lists : List (List ℕ)) (r : ReportValue) : Type 0 where
  pub entries : OnePerNode net.tree.parents r
  pub nodes : (node : ℕ) → node < length net.tree.parents → NodeObeysSince net lists r node
  pub tree_law : (node : ℕ) → node < length net.tree.parents
      → SharperLawSince (moment_of net lists) (received_at r) node

-- this part is broken, and none that is looked at before it at the same node
abbrev pub IsBrokenSince : Network → List (List ℕ) → ReportValue → BrokenSince → Type 0
IsBrokenSince net lists r broken.Published =
    ¬ (received_at r (root_of net.tree.parents) ≡ net.published)
IsBrokenSince net lists r broken.RootCount =
    (received_at r (root_of net.tree.parents) ≡ net.published)
    × IsSome (acked_at r (root_of net.tree.parents))
IsBrokenSince net lists r (broken.NoCount child) =
    IsSome (parent_at net.tree.parents child) × (acked_at r child ≡ None)
IsBrokenSince net lists r (broken.LinkLaw child) =
    (parent acked : ℕ) × (parent_at net.tree.parents child ≡ Some parent)
    × (acked_at r child ≡ Some acked)
    × ¬ SharperLawBelow (capacity_into net child) (garbage_into net child)
    (above_since lists r child parent) acked (received_at r child)
IsBrokenSince net lists r (broken.HandedOn child) =
    (parent : ℕ) × (parent_at net.tree.parents child ≡ Some parent)
    × LinkObeysSince net lists r child parent
    × (has_ended r parent ≡ true)
    × ¬ (acked_at r child ≡ Some (length (above_since lists r child parent)))

-- the node at which a part is broken
abbrev pub place_since : Network → BrokenSince → ℕ
place_since net broken.Published = root_of net.tree.parents
place_since net broken.RootCount = root_of net.tree.parents
place_since net (broken.NoCount child) = child
place_since net (broken.LinkLaw child) = child
place_since net (broken.HandedOn child) = child

-- each node before the broken one obeys
abbrev pub IsFirstSince : Network → List (List ℕ) → ReportValue → BrokenSince → Type 0
IsFirstSince net lists r part =
    (earlier : ℕ) → earlier < place_since net part → NodeObeysSince net lists r earlier
