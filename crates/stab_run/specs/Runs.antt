-- What holds of the report of a run, and why a run is refused.
-- Example: The root r published 7, 8. The report says that a, below it, received 7 with none
-- acknowledged, and the link has the clean start. The events `["offer", 7]`, `"send_frame"`,
-- `"recv_frame"`, `"close"` explain it: the link is closed, delivered 7, acknowledged none, and
-- offered 7, which is a prefix of 7, 8. Had a received 9, which r does not have, nothing would
-- explain it. If r ended as Upstream, `HandsOn` asks that 2 are acknowledged on the link into a,
-- since r has two items; so here r ended as Turns.
-- Source: this project's profile.
use Rattle.std.specs.Prelude.{◌≡◌, ℕ, ◌+◌, ◌*◌, ◌<◌, List, length, map, Option, Some, None}
use Rattle.stab_core.specs.declared.start.StartFault.{StartFault}
use Rattle.stab_core.specs.Link.{IsReason}
use Rattle.stab_core.specs.LinkSetup.{CanBegin, LinkSetup}
use Rattle.stab_core.specs.Replay.{IsLawful}
use Rattle.stab_job.specs.JobValues.{JobValue, network}
use Rattle.stab_report.specs.EndedNodes.{AllHandOn, CompleteBelowEnded}
use Rattle.stab_tree.specs.Nodes.{parent_at, root_of}
use Rattle.stab_tree.specs.Steps.{depth_of}
use Rattle.stab_treecore.specs.SharperLaw.{SharperTreeLawAtNodes}
use Rattle.stab_treecore.specs.EdgeLaw.{EdgeInto}
use Rattle.stab_treecore.specs.Network.{IsNetwork, Network}
use Rattle.stab_treecore.specs.NodeLaws.{HalfTreeLawAtNodes, TreeLawAtNodes, held_bound}
use Rattle.stab_treecore.specs.NodeLaws.{path_garbage}
use Rattle.stab_treecore.specs.TreeLaw.{TreeLaw}
use Rattle.stab_node.specs.ByNode.{entry_into, received_at}
use Rattle.stab_run.specs.ByScript.{AreByLockedScript, AreByScript}
use Rattle.stab_run.specs.LinkKinds.{HaveOnePlace, kind_for}
use Rattle.stab_run.specs.Reports.{OnePerNode, Reported, acked_at, as_report}
use Rattle.stab_run.specs.declared.links.Links.{Links}

-- the root has the published items, and no link leads into it
pub record RootHas (net : Network) (r : Reported) : Type 0 where
  pub received : received_at r.received (root_of net.tree.parents) ≡ net.published
  pub acked : acked_at r.acked (root_of net.tree.parents) ≡ None

-- The link into a child: it can begin, and some events, from its start and under its parameters,
-- explain what the report says of it. They end with the link closed, the child has its opening and
-- then what was delivered, as many items are acknowledged as the report says, and what was offered
-- is a prefix of what the parent has.
pub record IsExplained (net : Network) (r : Reported) (child parent : ℕ) : Type 0 where
  pub edge : EdgeInto net child (received_at r.received parent) (received_at r.received child)
  pub counted : acked_at r.acked child ≡ Some edge.acked

-- every link is explained
abbrev pub AreExplained : Network → Reported → Type 0
AreExplained net r =
    (child parent : ℕ) → parent_at net.tree.parents child ≡ Some parent
    → IsExplained net r child parent

-- the tree law at each node, where a node at depth d has at most d strays from its links, beside
-- those of openings, and none is missing but among the first 3d
abbrev pub TreeLawByDepth : Network → (ℕ → List ℕ) → Type 0
TreeLawByDepth net received =
    (node : ℕ) → node < length net.tree.parents
    → TreeLaw (depth_of net.tree.parents node + held_bound net node)
    (3 * depth_of net.tree.parents node) (path_garbage net node) net.published (received node)

-- A report of a run of a job over these links. The root has the published items, some events
-- explain each link, which was of the kind that the run has for its parameters, and they keep to
-- the script of the link; a node that ended with its upstream hands on what it received; the half
-- tree law, the tree law, the sharper one and, below nodes that all ended so, the sharper complete
-- law hold. The job is a network, so every link could begin.
pub record IsReport (links : Links) (job : JobValue) (report : Reported) : Type 0 where
  pub one_place : HaveOnePlace links job.params
  pub nodes : OnePerNode job.tree.parents report
  pub root : RootHas (network job) report
  pub edges : AreExplained (network job) report
  pub kinds : report.kinds ≡ map (kind_for links) job.params
  pub scripts : AreByScript links job report
  pub locked_scripts : AreByLockedScript links job report
  pub handed_on : AllHandOn job.tree.parents (as_report report)
  pub half_tree_law : HalfTreeLawAtNodes (network job) (received_at report.received)
  pub tree_law : TreeLawAtNodes (network job) (received_at report.received)
  pub sharper_tree_law : SharperTreeLawAtNodes (network job) (received_at report.received)
  pub complete : CompleteBelowEnded (network job) (as_report report)
  pub network : IsNetwork (network job)

-- This node is the first in file order into which a link leads that cannot begin from its start
-- under its parameters, for this reason.
pub record IsFirstUnlawful (parents : List (Option ℕ)) (links : List LinkSetup) (child : ℕ)
    (fault : StartFault) : Type 0 where
  pub link : LinkSetup
  pub leads : entry_into parents links child ≡ Some link
  pub unlawful : ¬ IsLawful link.params link.start
  pub reason : IsReason link.params link.start fault
  pub begins_before : (earlier : ℕ) (other : LinkSetup) → earlier < child
      → entry_into parents links earlier ≡ Some other → CanBegin other
