-- Where each node of a report obeys, the tree law holds at each node, counted from the moment.
use Rattle.std.proofs.Common.{◌≡◌, ℕ, ◌<◌, ◌++◌, List, length, Some, MatchOption, refl, subst}
use Rattle.stab_core.specs.LinkLaw.{SharperLinkLaw}
use Rattle.stab_treecore.specs.Moment.{Moment, SharperLawSince}
use Rattle.stab_judge.specs.EndedNodes.{HandsOn}
use Rattle.stab_judge.specs.Obeys.{RootObeys}
use Rattle.stab_judge.specs.Reports.{ReportValue, OnePerNode, received_at}
use Rattle.stab_tree.specs.IsTree.{IsRooted}
use Rattle.stab_tree.specs.Nodes.{Nodes, parent_at}
use Rattle.stab_tree.proofs.ForCallers.{child_is_node}
use Rattle.stab_treecore.specs.Network.{Network}
use Rattle.stab_treecore.specs.NodeLaws.{LawBetween, capacity_into, garbage_into}
use Rattle.rignolda_since.specs.Backlogs.{backlog_at}
use Rattle.rignolda_since.specs.ObeysSince.{LinkObeysSince, NodeObeysSince, ObeysSince, above_since, moment_of}

-- what the law of links says of any moment
abbrev pub LinksMakeTheLaw : Type 0
LinksMakeTheLaw =
    (tree : Nodes) (m : Moment) (gain : ℕ → List ℕ) → IsRooted tree.parents → m.parents ≡ tree.parents
    → ((child parent : ℕ) → parent_at m.parents child ≡ Some parent
    → LawBetween SharperLinkLaw (m.capacity child) (m.queued child) (m.backlog child ++ gain parent) (gain child))
    → (node : ℕ) → node < length m.parents → SharperLawSince m gain node

module _ (net : Network) (lists : List (List ℕ)) (r : ReportValue) (tree : IsRooted net.tree.parents)
    (nodes : (node : ℕ) → node < length net.tree.parents → NodeObeysSince net lists r node) where
  -- each link obeys
  link_obeys : (child parent : ℕ) → parent_at net.tree.parents child ≡ Some parent
      → LawBetween SharperLinkLaw (capacity_into net child) (garbage_into net child) (backlog_at lists child ++ received_at r parent) (received_at r child)
  link_obeys child parent is_child =
      let both : LinkObeysSince net lists r child parent × HandsOn r child parent (above_since lists r child parent) =
      subst
      (λ up. MatchOption up (RootObeys net r child) (λ p. LinkObeysSince net lists r child p × HandsOn r child p (above_since lists r child p)))
      is_child
      (nodes child (child_is_node net.tree.parents child parent is_child)) in
      let (link, handed) = both in
      let (acked, counted, below) = link in
      let (offered, begins, law) = below in
      (offered, acked, begins, law)

  pub all_obey : OnePerNode net.tree.parents r → LinksMakeTheLaw → ObeysSince net lists r
  all_obey entries law = record {
    entries = entries;
    nodes = nodes;
    tree_law = law net.tree (moment_of net lists) (received_at r) tree refl link_obeys;
  }
