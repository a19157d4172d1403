-- From the edge law of each link, which a run tells, to the tree law at each node.
use Rattle.std.proofs.Common.{◌≡◌, ℕ, List, [], Some, ap, sym, subst}
use Rattle.std.specs.Option.{option_map_or}
use Rattle.stab_frames.specs.Parameters.{Parameters, AreLawful}
use Rattle.stab_core.specs.declared.start.Start.{Start}
use Rattle.stab_core.specs.LinkLaw.{LinkLaw, SharperLinkLaw}
use Rattle.stab_core.specs.LinkSetup.{LinkSetup}
use Rattle.stab_core.specs.Replay.{IsLawful, initial, replay, start_items}
use Rattle.stab_tree.specs.IsTree.{IsRooted}
use Rattle.stab_tree.specs.Nodes.{parent_at, root_of}
use Rattle.stab_treecore.specs.EdgeLaw.{EdgeLaw, EdgeInto}
use Rattle.stab_treecore.specs.Network.{Network}
use Rattle.stab_treecore.specs.NodeLaws.{capacity_into, garbage_into, LawBetween, LawInto, TreeLawAtNodes}
use Rattle.stab_tree.specs.NodeOpenings.{FitTree}
use Rattle.stab_treecore.specs.SharperLaw.{SharperTreeLawAtNodes}
use Rattle.stab_treecore.proofs.AtNodes.{nodes_obey}
use Rattle.stab_treecore.proofs.SharperNodes.{sharper_nodes}
use Rattle.stab_treecore.proofs.Replayed.{ReplaysObey}

module _ (Law : ℕ → List ℕ → List ℕ → ℕ → List ℕ → Type 0) (obey : ReplaysObey Law) where
  -- the law between the lists at the two ends of a link
  pub edge_obeys : (p : Parameters) (start : Start) (above : List ℕ) (acked : ℕ) (delivered : List ℕ) → AreLawful p → IsLawful p start
      → EdgeLaw p start above acked delivered → LawBetween Law p.capacity (start_items start) above delivered
  edge_obeys p start above acked delivered lawful_params lawful edge =
      let s = replay p (initial start) edge.events in (
        s.offered,
        s.acked,
        edge.offers,
        subst (λ list. Law p.capacity (start_items start) s.offered s.acked list) edge.delivers (obey p start edge.events lawful_params lawful),
      )

  -- the same of the lists of two nodes, of which the lower one's begins with its opening
  pub edge_into_obeys : (net : Network) (child : ℕ) (above below : List ℕ) → EdgeInto net child above below → LawInto Law net child above below
  edge_into_obeys net child above below edge =
      let link = edge.link in
      let capacity : capacity_into net child ≡ link.params.capacity = ap (λ o. option_map_or (λ (l : LinkSetup). l.params.capacity) o 0) edge.leads in
      let garbage : garbage_into net child ≡ start_items link.start = ap (λ o. option_map_or (λ (l : LinkSetup). start_items l.start) o []) edge.leads in (
        edge.delivered,
        edge.has,
        subst (λ c. LawBetween Law c (garbage_into net child) above edge.delivered) (sym capacity)
            (subst (λ items. LawBetween Law link.params.capacity items above edge.delivered) (sym garbage)
            (edge_obeys link.params link.start above edge.acked edge.delivered edge.begins.0 edge.begins.1 edge.edge)),
      )

-- the tree law at each node
pub edges_obey : ReplaysObey LinkLaw → (net : Network) (received : ℕ → List ℕ) → IsRooted net.tree.parents → FitTree net.tree.parents net.openings
    → received (root_of net.tree.parents) ≡ net.published
    → ((child parent : ℕ) → parent_at net.tree.parents child ≡ Some parent → EdgeInto net child (received parent) (received child))
    → TreeLawAtNodes net received
edges_obey obey net received tree fit at_root edges =
    nodes_obey net tree received at_root fit
    (λ child parent is_child. edge_into_obeys LinkLaw obey net child (received parent) (received child) (edges child parent is_child))

-- and the sharper one
pub edges_obey_sharper : ReplaysObey SharperLinkLaw → (net : Network) (received : ℕ → List ℕ) → IsRooted net.tree.parents
    → FitTree net.tree.parents net.openings → received (root_of net.tree.parents) ≡ net.published
    → ((child parent : ℕ) → parent_at net.tree.parents child ≡ Some parent → EdgeInto net child (received parent) (received child))
    → SharperTreeLawAtNodes net received
edges_obey_sharper obey net received tree fit at_root edges =
    sharper_nodes net tree received at_root fit
    (λ child parent is_child. edge_into_obeys SharperLinkLaw obey net child (received parent) (received child) (edges child parent is_child))
