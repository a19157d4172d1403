-- Exchanges in a tree over connections, and the tree of links that it is.
-- Example: In the chain r, a, b let r publish 7, and an exchange be completed on the link into a,
-- and then one on that into b. These acts are one part for the path of b, which has 7 then. As they
-- begin, only the link into b is at rest; then both are, so a second part may have no acts at all.
-- Source: this project's own.
use Rattle.std.specs.Prelude.{◌≡◌, ℕ, zero, suc, ◌+◌, ◌≤◌, ◌==◌, if◌then◌else◌, List, [], ◌∷◌}
use Rattle.std.specs.Prelude.{◌++◌, length, Option, Some, is_none, false, true, option_map}
use Rattle.std.specs.Prelude.{Bool, ◌&&◌, ◌⊎◌}
use Rattle.stab_core.specs.Link.{LinkValue, link_at}
use Rattle.stab_exchanges.specs.Exchanges.{Exchange, sending, exchange_after, exchanged_by}
use Rattle.stab_line.specs.Line.{Line, held, link_of}
use Rattle.stab_line.specs.NodeTree.{list_above, parameters_into}
use Rattle.stab_line.specs.SessionLink.{SessionLink, happens, line_of}
use Rattle.stab_line.specs.SessionTree.{SessionTree, TreeAct, at_link, nodes_of, tree_run}
use Rattle.stab_line.specs.SessionTree.{tree_step}
use Rattle.stab_tree.specs.Nodes.{parent_at}
use Rattle.stab_tree.specs.Steps.{Reaches}
use Rattle.stab_treecore.specs.Network.{Network}
use Rattle.stab_treecore.specs.WholeTree.{WholeTree}

-- the exchange that an act of the tree completes on the link into a node
abbrev pub exchanged_at : SessionTree → ℕ → Exchange → TreeAct → ℕ
exchanged_at t w e (at_link child act) =
    if w == child then exchanged_by (t.links w) e (happens act) else 0
exchanged_at t w e act = 0

-- what an exchange there waits for after the act
abbrev pub awaited_at : SessionTree → ℕ → Exchange → TreeAct → Exchange
awaited_at t w e (at_link child act) =
    if w == child then exchange_after (t.links w) e (happens act) else e
awaited_at t w e act = e

-- the exchanges that these acts complete there, where this is awaited first
abbrev pub exchanges_at : Network → SessionTree → ℕ → Exchange → List TreeAct → ℕ
exchanges_at net t w e [] = 0
exchanges_at net t w e (act ∷ acts) =
    exchanged_at t w e act + exchanges_at net (tree_step net t act) w (awaited_at t w e act) acts

-- The link into a node has nothing to hand on: its sender holds nothing and was offered all of the
-- parent's list, and nothing comes to its ends by their connections.
abbrev pub is_at_rest : Network → SessionTree → ℕ → Bool
is_at_rest net t w =
    let l : Line = line_of (t.links w) in
    (is_none l.sender.state.item && (length (list_above net (nodes_of t) w) == t.counts w))
    && ((length l.frames == 0) && (length l.acks == 0))

-- The acts have `rounds` parts, one after the other, in each of which each link of the node's path
-- completes an exchange, unless it has nothing to hand on as the part begins.
abbrev pub PathExchanges : Network → SessionTree → ℕ → ℕ → List TreeAct → Type 0
PathExchanges net t node zero acts = Unit {0}
PathExchanges net t node (suc rounds) acts =
    (part : List TreeAct) × (rest : List TreeAct) × (acts ≡ part ++ rest)
    × ((w parent : ℕ) → Reaches net.tree.parents node w → parent_at net.tree.parents w ≡ Some parent
    → (is_at_rest net t w ≡ true) ⊎ (1 ≤ exchanges_at net t w sending part))
    × PathExchanges net (tree_run net t part) node rounds rest

-- no sender's end of the node's path is closed
abbrev pub IsPathOfOpenSenders : Network → SessionTree → ℕ → Type 0
IsPathOfOpenSenders net t node =
    (w parent : ℕ) → Reaches net.tree.parents node w → parent_at net.tree.parents w ≡ Some parent
    → (t.links w).sender.closed ≡ false

-- each item that was offered on the link was acknowledged, but for the one that the sender holds
abbrev pub IsCounted : SessionLink → Type 0
IsCounted t =
    (front : List ℕ) × (t.offered ≡ front ++ held t.sender.state.item) × (t.acked ≡ length front)

-- so it is on each link, and its parent's list was offered as far
abbrev pub AllCounted : Network → SessionTree → Type 0
AllCounted net t =
    (w parent : ℕ) → parent_at net.tree.parents w ≡ Some parent
    → IsCounted (t.links w) × (t.counts w ≡ length (t.links w).offered)
    × (t.counts w ≤ length (list_above net (nodes_of t) w))

-- the link that the connections into a node are, where it has a parent
abbrev pub link_shown : Network → SessionTree → ℕ → ℕ → LinkValue
link_shown net t w parent = link_at (parameters_into net w) (link_of (line_of (t.links w)))

-- the links into these nodes, the first of which has this number
abbrev pub links_from : Network → SessionTree → ℕ → List (Option ℕ) → List (Option LinkValue)
links_from net t w [] = []
links_from net t w (parent ∷ parents) =
    option_map (link_shown net t w) parent ∷ links_from net t (w + 1) parents

-- the tree of links that the tree over connections is
abbrev pub tree_of_links : Network → SessionTree → WholeTree
tree_of_links net t =
    record {
      published = t.published;
      openings = net.openings.lists;
      parents = net.tree.parents;
      links = links_from net t 0 net.tree.parents;
    }
