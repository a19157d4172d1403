-- From the edge law of each link, counted from a moment, to the tree law at each node.
use Rattle.std.proofs.Common.{◌≡◌, ℕ, ◌<◌, ◌++◌, List, length, Some, sym, subst}
use Rattle.stab_core.specs.LinkLaw.{LinkLaw, SharperLinkLaw}
use Rattle.stab_core.specs.Replay.{replay, start_items}
use Rattle.stab_tree.specs.IsTree.{IsRooted}
use Rattle.stab_tree.specs.Nodes.{Nodes, parent_at}
use Rattle.stab_treecore.specs.NodeLaws.{LawBetween}
use Rattle.stab_treecore.proofs.Obeying.{ObeysSince}
use Rattle.stab_treecore.specs.EdgeSince.{EdgeSinceInto, EdgesSince}
use Rattle.stab_core.specs.Since.{start_at, offered_since, acked_since}
use Rattle.stab_treecore.specs.Moment.{Moment, LawSince, SharperLawSince}
use Rattle.stab_treecore.proofs.PathLaws.{law_of_path, sharper_law_of_path}

edge_obeys : (Law : ℕ → List ℕ → List ℕ → ℕ → List ℕ → Type 0) → ObeysSince Law → (m : Moment) (gained : ℕ → List ℕ) (child parent : ℕ)
    → EdgeSinceInto m gained child parent
    → LawBetween Law (m.capacity child) (m.queued child) (m.backlog child ++ gained parent) (gained child)
edge_obeys Law obey m gained child parent into =
    let p = into.params in
    let s = into.state in
    let edge = into.edge in
    let t = replay p s edge.events in (
      offered_since s t,
      acked_since s t,
      edge.offers,
      subst (λ c. Law c (m.queued child) (offered_since s t) (acked_since s t) (gained child)) (sym into.capacity)
          (subst (λ items. Law p.capacity items (offered_since s t) (acked_since s t) (gained child)) (sym into.queued)
          (subst (λ list. Law p.capacity (start_items (start_at s)) (offered_since s t) (acked_since s t) list) edge.delivers
          (obey p s edge.events edge.lawful edge.bounded))),
    )

pub law_of_edges_since : ObeysSince LinkLaw → (tree : Nodes) (m : Moment) (gained : ℕ → List ℕ) → IsRooted tree.parents → m.parents ≡ tree.parents
    → EdgesSince m gained → (node : ℕ) → node < length m.parents → LawSince m gained node
law_of_edges_since obey tree m gained is_tree same edges node is_node =
    law_of_path tree is_tree m same gained (λ _. Unit {0}) (λ w parent on child. tt)
    (λ w parent on child. edge_obeys LinkLaw obey m gained w parent (edges w parent child)) node is_node tt

pub sharper_law_of_edges_since : ObeysSince SharperLinkLaw → (tree : Nodes) (m : Moment) (gained : ℕ → List ℕ) → IsRooted tree.parents
    → m.parents ≡ tree.parents → EdgesSince m gained → (node : ℕ) → node < length m.parents → SharperLawSince m gained node
sharper_law_of_edges_since obey tree m gained is_tree same edges node is_node =
    sharper_law_of_path tree is_tree m same gained (λ _. Unit {0}) (λ w parent on child. tt)
    (λ w parent on child. edge_obeys SharperLinkLaw obey m gained w parent (edges w parent child)) node is_node tt

-- the same where of each link nothing but the link law is known
pub law_of_links_since : (tree : Nodes) (m : Moment) (gained : ℕ → List ℕ) → IsRooted tree.parents → m.parents ≡ tree.parents
    → ((child parent : ℕ) → parent_at m.parents child ≡ Some parent
    → LawBetween LinkLaw (m.capacity child) (m.queued child) (m.backlog child ++ gained parent) (gained child))
    → (node : ℕ) → node < length m.parents → LawSince m gained node
law_of_links_since tree m gained is_tree same links node is_node =
    law_of_path tree is_tree m same gained (λ _. Unit {0}) (λ w parent on child. tt)
    (λ w parent on child. links w parent child) node is_node tt

pub sharper_law_of_links_since : (tree : Nodes) (m : Moment) (gained : ℕ → List ℕ) → IsRooted tree.parents → m.parents ≡ tree.parents
    → ((child parent : ℕ) → parent_at m.parents child ≡ Some parent
    → LawBetween SharperLinkLaw (m.capacity child) (m.queued child) (m.backlog child ++ gained parent) (gained child))
    → (node : ℕ) → node < length m.parents → SharperLawSince m gained node
sharper_law_of_links_since tree m gained is_tree same links node is_node =
    sharper_law_of_path tree is_tree m same gained (λ _. Unit {0}) (λ w parent on child. tt)
    (λ w parent on child. links w parent child) node is_node tt
