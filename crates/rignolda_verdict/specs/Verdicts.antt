-- What is said of a report: that it obeys, or which part of it is broken, with its lists.
-- Example: The root r published 10, 11, and its report says that it has 10, 12. Then the part
-- `Published` is broken, and the text has three lines: `r: its items are not the published ones`,
-- `published: 10 11` and `items of r: 10 12`.
-- Source: this project's own; numbers are in plain decimal, as std prints them.
use Rattle.std.specs.Prelude.{◌≡◌, ℕ, Bool, true, false, List, [], ◌++◌, length, codes, decimal}
use Rattle.std.specs.Prelude.{unwrap_or}
use Rattle.std.specs.Option.{option_map_or}
use Rattle.stab_core.specs.Texts.{numbers_line}
use Rattle.stab_tree.specs.Nodes.{parent_at, root_of}
use Rattle.stab_treecore.specs.Network.{Network}
use Rattle.stab_treecore.specs.NodeLaws.{capacity_into, garbage_into}
use Rattle.stab_tree.specs.NodeOpenings.{opening_at}
use Rattle.stab_judge.specs.Obeys.{IsFirst, IsFirstBroken}
use Rattle.stab_judge.specs.Reports.{ReportValue, acked_at, received_at}
use Rattle.stab_judge.specs.declared.broken.Broken.{Broken}
use Rattle.stab_judge.specs.declared.broken.Broken.TheVariants as broken
use Rattle.rignolda_verdict.specs.BoundsTexts.{name_at}

-- a report, and the network that it is judged by
pub record JudgedReport : Type 0 where
  pub net : Network
  pub report : ReportValue

-- the line of the items of a node
unfoldable pub items_line : List ℕ → List ℕ → List ℕ
items_line name items = codes "items of " ++ name ++ numbers_line (codes ":") items

-- the name and the list of a node's parent; a root has none
abbrev pub name_above : Network → ℕ → List ℕ
name_above net node = option_map_or (name_at net) (parent_at net.tree.parents node) []

abbrev pub list_above : Network → ReportValue → ℕ → List ℕ
list_above net r node = option_map_or (received_at r) (parent_at net.tree.parents node) []

-- the report has no entry for some node, or one too many
unfoldable pub entries_text : List ℕ
entries_text = codes "the report has another number of nodes than the tree\n"

-- the root of this name has these items, and not the published ones
unfoldable pub published_text : List ℕ → List ℕ → List ℕ → List ℕ
published_text name published items =
    name ++ codes ": its items are not the published ones\n"
    ++ numbers_line (codes "published:") published ++ items_line name items

-- there is a count at the root
unfoldable pub root_count_text : List ℕ → List ℕ
root_count_text name =
    name ++ codes ": it has a count of acknowledged items, and no link leads into the root\n"

-- there is no count at another node
unfoldable pub no_count_text : List ℕ → List ℕ
no_count_text name = name ++ codes ": it has no count of acknowledged items\n"

-- the opening of a node of this name, and its items
unfoldable pub own_lists : List ℕ → List ℕ → List ℕ → List ℕ
own_lists name opening items = numbers_line (codes "opening:") opening ++ items_line name items

-- the list of a node does not begin with its opening
unfoldable pub opening_text : List ℕ → List ℕ → List ℕ → List ℕ
opening_text name opening items =
    name ++ codes ": its items do not begin with its opening\n" ++ own_lists name opening items

-- a link has this capacity
unfoldable pub capacity_words : ℕ → List ℕ
capacity_words capacity = codes " has capacity " ++ decimal capacity

-- `acked` items are acknowledged on it
unfoldable pub acked_words : ℕ → List ℕ
acked_words acked = codes " and " ++ decimal acked ++ codes " acknowledged items\n"

-- the link into a node of this name breaks the link law
unfoldable pub link_head : List ℕ → List ℕ → ℕ → ℕ → List ℕ
link_head name above capacity acked =
    name ++ codes ": what it has after its opening is not what the link law allows\nthe link from "
    ++ above ++ capacity_words capacity ++ acked_words acked

-- what is in the frames of a link at its start, and the items of the node above it
unfoldable pub lists_above : List ℕ → List ℕ → List ℕ → List ℕ
lists_above frames above items =
    numbers_line (codes "frames:") frames ++ items_line above items

-- what is said of the link into a node, of what is above it, and of the node
unfoldable pub law_head : Network → ReportValue → ℕ → List ℕ
law_head net r child =
    link_head (name_at net child) (name_above net child) (capacity_into net child)
    (unwrap_or (acked_at r child) 0)

unfoldable pub law_above : Network → ReportValue → ℕ → List ℕ
law_above net r child =
    lists_above (garbage_into net child) (name_above net child) (list_above net r child)

unfoldable pub law_below : Network → ReportValue → ℕ → List ℕ
law_below net r child =
    own_lists (name_at net child) (opening_at net.openings.lists child) (received_at r child)

-- the link into a node breaks the link law
unfoldable pub link_law_text : Network → ReportValue → ℕ → List ℕ
link_law_text net r child = law_head net r child ++ law_above net r child ++ law_below net r child

-- a node of this name and of this many items ended with its upstream
unfoldable pub ended_words : ℕ → List ℕ
ended_words count = codes " ended upstream with " ++ decimal count ++ codes " items,"

-- `acked` of these are acknowledged
unfoldable pub of_them_words : ℕ → List ℕ
of_them_words acked = codes " and " ++ decimal acked ++ codes " of them are acknowledged\n"

-- not all items of the parent of a node are acknowledged, which ended with its upstream
unfoldable pub handed_on_text : List ℕ → List ℕ → ℕ → ℕ → List ℕ
handed_on_text name above count acked =
    name ++ codes ": " ++ above ++ ended_words count ++ of_them_words acked

-- what is said of a broken part
abbrev pub broken_text : Network → ReportValue → Broken → List ℕ
broken_text net r broken.Entries = entries_text
broken_text net r broken.Published =
    published_text (name_at net (root_of net.tree.parents)) net.published
    (received_at r (root_of net.tree.parents))
broken_text net r broken.RootCount = root_count_text (name_at net (root_of net.tree.parents))
broken_text net r (broken.NoCount child) = no_count_text (name_at net child)
broken_text net r (broken.Opening child) =
    opening_text (name_at net child) (opening_at net.openings.lists child) (received_at r child)
broken_text net r (broken.LinkLaw child) = link_law_text net r child
broken_text net r (broken.HandedOn child) =
    handed_on_text (name_at net child) (name_above net child)
    (length (list_above net r child)) (unwrap_or (acked_at r child) 0)

-- the text says that the report obeys, or which part is broken first; each node before it obeys
abbrev pub SaysVerdict : Network → ReportValue → Bool → List ℕ → Type 0
SaysVerdict net r true text = text ≡ codes "obeys\n"
SaysVerdict net r false text =
    (part : Broken) × IsFirstBroken net r part × IsFirst net r part
    × (text ≡ broken_text net r part)
