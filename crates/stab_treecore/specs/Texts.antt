-- The lines that a whole tree prints: two for each node, in file order.
-- Source: this project's own; numbers are in plain decimal, as std prints them.
use Rattle.std.specs.Prelude.{ℕ, List, [], ◌++◌, length, codes, Option, Some, None, slice_index_or}
use Rattle.std.specs.List.{flat_map, range_with_len}
use Rattle.stab_core.specs.Texts.{newline, number_entry, numbers_line}
use Rattle.stab_tree.specs.Nodes.{Nodes}
use Rattle.stab_tree.specs.Steps.{depth_of}
use Rattle.stab_treecore.specs.WholeTree.{WholeTree, received, acked_of}

-- one space, and how many items are acknowledged on the link into a node, or - where there is no
-- link
abbrev pub acked_entry : Option ℕ → List ℕ
acked_entry None = codes " -"
acked_entry (Some acked) = number_entry acked

-- a node's name, its depth, how many items it received, and how many are acknowledged on the link
-- into it
unfoldable pub node_counts : List ℕ → ℕ → ℕ → Option ℕ → List ℕ
node_counts name depth received acked =
    name ++ codes " depth" ++ number_entry depth ++ codes " received" ++ number_entry received
    ++ codes " acked" ++ acked_entry acked

-- the two lines of a node: its counts, and the items that it received
unfoldable pub node_text : List ℕ → ℕ → List ℕ → Option ℕ → List ℕ
node_text name depth received acked =
    node_counts name depth (length received) acked ++ newline
    ++ numbers_line (codes "items:") received

-- the lines of a node of a tree
abbrev pub lines_of : Nodes → WholeTree → ℕ → List ℕ
lines_of nodes t node =
    node_text (slice_index_or nodes.names node []) (depth_of nodes.parents node) (received t node)
    (acked_of t node)

-- the lines of each node
unfoldable pub schedule_text : Nodes → WholeTree → List ℕ
schedule_text nodes t = flat_map (lines_of nodes t) (range_with_len 0 (length nodes.parents))
