-- Where each node obeys, so do the root and each link, and the tree law holds at each node.
use Rattle.std.proofs.Common.{◌≡◌, ℕ, ◌<◌, List, length, Some, MatchOption, subst}
use Rattle.stab_core.specs.LinkLaw.{SharperLinkLaw}
use Rattle.stab_tree.specs.IsTree.{IsRooted}
use Rattle.stab_tree.specs.NodeOpenings.{FitTree}
use Rattle.stab_tree.specs.Nodes.{parent_at, root_of}
use Rattle.stab_tree.specs.Steps.{ancestor}
use Rattle.stab_tree.proofs.ForCallers.{child_is_node}
use Rattle.stab_treecore.specs.Network.{Network}
use Rattle.stab_treecore.specs.NodeLaws.{LawInto}
use Rattle.stab_treecore.specs.SharperLaw.{SharperTreeLawAtNode, SharperTreeLawAtNodes}
use Rattle.stab_judge.specs.Obeys.{LinkObeys, NodeObeys, RootObeys}
use Rattle.stab_report.specs.EndedNodes.{HandsOn, ObeysAsCounted}
use Rattle.stab_report.specs.Reports.{ReportValue, received_at}

-- the law of the layer below that this needs
abbrev pub LinksMakeTheTreeLaw : Type 0
LinksMakeTheTreeLaw =
    (net : Network) (received : ℕ → List ℕ) (node : ℕ) → IsRooted net.tree.parents → FitTree net.tree.parents net.openings
    → received (root_of net.tree.parents) ≡ net.published → node < length net.tree.parents
    → ((steps child parent : ℕ) → ancestor net.tree.parents steps node ≡ Some child → parent_at net.tree.parents child ≡ Some parent
    → LawInto SharperLinkLaw net child (received parent) (received child))
    → SharperTreeLawAtNode net received node

module _ (net : Network) (r : ReportValue) (tree : IsRooted net.tree.parents)
    (nodes : (node : ℕ) → node < length net.tree.parents → NodeObeys net r node) where
  -- the root obeys
  pub root_obeys : RootObeys net r (root_of net.tree.parents)
  root_obeys =
      let root = root_of net.tree.parents in
      subst
      (λ up. MatchOption up (RootObeys net r root) (λ parent. LinkObeys net r root parent × HandsOn r root parent (received_at r parent)))
      tree.root_has_none (nodes root tree.root_is_node)

  -- and each child
  pub child_obeys : (child parent : ℕ) → parent_at net.tree.parents child ≡ Some parent
      → LinkObeys net r child parent × HandsOn r child parent (received_at r parent)
  child_obeys child parent is_child =
      subst (λ up. MatchOption up (RootObeys net r child) (λ p. LinkObeys net r child p × HandsOn r child p (received_at r p))) is_child
      (nodes child (child_is_node net.tree.parents child parent is_child))

-- a link that obeys does so with the count of the report
pub as_counted : (net : Network) (r : ReportValue) (child parent : ℕ) → LinkObeys net r child parent → ObeysAsCounted net r child parent
as_counted net r child parent link = (link.delivered, link.has, (link.law.0, link.acked, link.law.1, (link.counted, link.law.2)))

module _ (net : Network) (r : ReportValue) (tree : IsRooted net.tree.parents) (fit : FitTree net.tree.parents net.openings)
    (root : RootObeys net r (root_of net.tree.parents))
    (links : (child parent : ℕ) → parent_at net.tree.parents child ≡ Some parent → LinkObeys net r child parent) where
  -- the tree law at each node
  pub tree_law : LinksMakeTheTreeLaw → SharperTreeLawAtNodes net (received_at r)
  tree_law make node is_node =
      make net (received_at r) node tree fit root.published is_node
      (λ steps child parent leads is_child.
      let link = links child parent is_child in
      (link.delivered, link.has, (link.law.0, link.acked, link.law.1, link.law.2)))
