-- The text of a report, as `stab run` prints one: two lines for each node, in file order. The text
-- of `stab tree` is one too, of a report in which no node ended with its upstream.
-- Example: For a node a at depth 1 that received 7, 8, with 2 acknowledged, and ended with its
-- upstream: `a depth 1 received 2 acked 2 ended upstream`, a newline, `items: 7 8`, a newline.
-- `stab tree` prints these lines without ` ended upstream`.
-- Source: this project's profile; numbers are in plain decimal, as std prints them.
use Rattle.std.specs.Prelude.{◌≡◌, ◌≢◌, ◌⊎◌, ℕ, Bool, true, false, List, [], ◌++◌, All, length}
use Rattle.std.specs.Prelude.{codes, Option, Some, None, slice_index_or}
use Rattle.std.specs.Bool.{then_some}
use Rattle.std.specs.List.{flat_map, range_with_len}
use Rattle.stab_core.specs.Texts.{newline, numbers_line}
use Rattle.stab_tree.specs.Nodes.{Nodes}
use Rattle.stab_tree.specs.Steps.{depth_of}
use Rattle.stab_treecore.specs.Texts.{node_counts}
use Rattle.stab_report.specs.Reports.{ReportValue, OnePerNode, received_at, acked_at, has_ended}
use Rattle.stab_report.specs.Lines.{AreItems, IsCount}

-- the end of a node's first line: why the node ended, and nothing in the text of a tree
unfoldable pub end_entry : Option Bool → List ℕ
end_entry None = []
end_entry (Some true) = codes " ended upstream"
end_entry (Some false) = codes " ended turns"

-- the two lines of a node: its counts, with this end, and the items that it received
unfoldable pub node_lines : List ℕ → ℕ → List ℕ → Option ℕ → Option Bool → List ℕ
node_lines name depth received acked end =
    node_counts name depth (length received) acked ++ end_entry end ++ newline
    ++ numbers_line (codes "items:") received

-- why a node ended, where the text says so
abbrev pub end_at : ReportValue → Bool → ℕ → Option Bool
end_at r says_so node = then_some says_so (has_ended r node)

-- the lines of a node of a tree
abbrev pub lines_at : Nodes → ReportValue → Bool → ℕ → List ℕ
lines_at nodes r says_so node =
    node_lines (slice_index_or nodes.names node []) (depth_of nodes.parents node)
    (received_at r node) (acked_at r node) (end_at r says_so node)

-- the lines of each node
unfoldable pub text_of : Nodes → ReportValue → Bool → List ℕ
text_of nodes r says_so =
    flat_map (lines_at nodes r says_so) (range_with_len 0 (length nodes.parents))

-- the text of a report, which says why each node ended
abbrev pub report_text : Nodes → ReportValue → List ℕ
report_text nodes r = text_of nodes r true

-- the text of a tree, which does not
abbrev pub tree_text : Nodes → ReportValue → List ℕ
tree_text nodes r = text_of nodes r false

-- no node ended with its upstream
abbrev pub IsUnended : ReportValue → Type 0
IsUnended r = All (λ ended. ended ≡ false) r.ended_upstream

-- the text is that of this report of a run, or of this tree, in which no node ended with its
-- upstream
abbrev pub IsTextOf : Nodes → List ℕ → ReportValue → Type 0
IsTextOf nodes text r =
    (text ≡ report_text nodes r) ⊎ ((text ≡ tree_text nodes r) × IsUnended r)

-- the numbers of a report are such as a report has: items below 2 ^ 32, and counts below 2 ^ 64
pub record IsPrintable (r : ReportValue) : Type 0 where
  pub items : All AreItems r.received
  pub counts : All IsCount r.acked

-- no report with an entry for each node and with such numbers has this text: none of a run, none of
-- a tree, and neither
abbrev pub IsNoReport : Nodes → List ℕ → Type 0
IsNoReport nodes text =
    (r : ReportValue) → OnePerNode nodes.parents r → IsPrintable r → text ≢ report_text nodes r

abbrev pub IsNoTree : Nodes → List ℕ → Type 0
IsNoTree nodes text =
    (r : ReportValue) → OnePerNode nodes.parents r → IsPrintable r → text ≢ tree_text nodes r

abbrev pub IsNoText : Nodes → List ℕ → Type 0
IsNoText nodes text = IsNoReport nodes text × IsNoTree nodes text
