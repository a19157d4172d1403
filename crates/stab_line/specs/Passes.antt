-- A path of a tree over connections, and a pass over it: from its upper end down, each child is
-- polled, and then comes an exchange on the connection that its two ends have.
-- Source: this project's own.
use Rattle.std.specs.Prelude.{◌≡◌, ℕ, zero, suc, ◌+◌, ◌-◌, Bool, List, [], ◌∷◌, ◌++◌, length, map}
use Rattle.std.specs.Prelude.{Option, Some, ⊤}
use Rattle.stab_tree.specs.Nodes.{parent_at}
use Rattle.stab_treecore.specs.Network.{Network}
use Rattle.stab_line.specs.Line.{held}
use Rattle.stab_line.specs.NodeTree.{list_above}
use Rattle.stab_line.specs.Progress.{AreOpen, IsNew, IsSendersTurn, connection_acts}
use Rattle.stab_line.specs.Progress.{exchange_acts}
use Rattle.stab_line.specs.SessionTree.{SessionTree, TreeAct, polls, at_link, nodes_of}

-- a link of a path: the child below it, and the connection that its two ends have
abbrev pub PathLink : Type 0
PathLink = ℕ × ℕ

-- a path from this node down, each node of which is the parent of the next
abbrev pub IsPath : List (Option ℕ) → ℕ → List PathLink → Type 0
IsPath parents above [] = ⊤
IsPath parents above ((child, n) ∷ path) =
    (parent_at parents child ≡ Some above) × IsPath parents child path

-- the ends of each of its links are open, and the connection was never used
abbrev pub AllMayConnect : SessionTree → List PathLink → Type 0
AllMayConnect t [] = ⊤
AllMayConnect t ((child, n) ∷ path) =
    AreOpen (t.links child) × IsNew (t.links child) n × AllMayConnect t path

-- the ends of each of its links are open, and the sender may send
abbrev pub AllMaySend : SessionTree → List PathLink → Type 0
AllMaySend t [] = ⊤
AllMaySend t ((child, n) ∷ path) =
    AreOpen (t.links child) × IsSendersTurn (t.links child) n × AllMaySend t path

-- what a child has not acknowledged: the item that its sender holds, and those still to be offered
abbrev pub backlog : Network → SessionTree → ℕ → ℕ
backlog net t child =
    length (held (t.links child).sender.state.item)
    + (length (list_above net (nodes_of t) child) - t.counts child)

-- the same of all children of a path together
abbrev pub backlogs : Network → SessionTree → List PathLink → ℕ
backlogs net t [] = 0
backlogs net t ((child, n) ∷ path) = backlog net t child + backlogs net t path

-- each link gets its connection, made by the parent where that is so of the child
abbrev pub all_connect : (ℕ → Bool) → List PathLink → List TreeAct
all_connect by_parent [] = []
all_connect by_parent ((child, n) ∷ path) =
    map (at_link child) (connection_acts (by_parent child) n) ++ all_connect by_parent path

abbrev pub polled_exchange : ℕ → ℕ → List TreeAct
polled_exchange child n = polls child ∷ map (at_link child) (exchange_acts n)

abbrev pub pass : List PathLink → List TreeAct
pass [] = []
pass ((child, n) ∷ path) = polled_exchange child n ++ pass path

-- as many passes
abbrev pub passes : ℕ → List PathLink → List TreeAct
passes zero path = []
passes (suc k) path = pass path ++ passes k path
