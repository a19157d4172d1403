-- What is said of a report since a moment: that it obeys, or which part of it is broken first.
-- Source: this project's own; numbers are in plain decimal, as std prints them.
use Rattle.std.specs.Prelude.{◌≡◌, ℕ, ◌+◌, Bool, true, false, List, ◌++◌, codes, length, unwrap_or}
use Rattle.stab_core.specs.Texts.{numbers_line}
use Rattle.stab_judge.specs.Reports.{ReportValue, received_at, acked_at}
use Rattle.stab_tree.specs.Nodes.{root_of}
use Rattle.stab_treecore.specs.Network.{Network}
use Rattle.stab_treecore.specs.NodeLaws.{capacity_into, garbage_into}
use Rattle.rignolda_verdict.specs.BoundsTexts.{name_at}
use Rattle.rignolda_verdict.specs.Verdicts.{acked_words, capacity_words, handed_on_text, items_line}
use Rattle.rignolda_verdict.specs.Verdicts.{list_above, name_above}
use Rattle.rignolda_verdict.specs.Verdicts.{no_count_text, published_text, root_count_text}
use Rattle.rignolda_since.specs.Backlogs.{backlog_at}
use Rattle.rignolda_since.specs.ObeysSince.{IsBrokenSince, IsFirstSince}
use Rattle.rignolda_since.specs.declared.broken.BrokenSince.{BrokenSince}
use Rattle.rignolda_since.specs.declared.broken.BrokenSince.TheVariants as broken

-- what a node received breaks the link law
unfoldable pub since_words : List ℕ
since_words = codes ": what it received since is not what the link law allows\nthe link from "

-- the link into a node of this name breaks it
abbrev pub since_head : List ℕ → List ℕ → ℕ → ℕ → List ℕ
since_head name above capacity acked =
    name ++ since_words ++ above ++ capacity_words capacity ++ acked_words acked

-- what was queued in that link, what was there for the node, and the lists of both its nodes
unfoldable pub since_lists : List ℕ → List ℕ → List ℕ → List ℕ → List ℕ → List ℕ → List ℕ
since_lists frames backlog above its_items name items =
    numbers_line (codes "frames:") frames ++ numbers_line (codes "backlog:") backlog
    ++ items_line above its_items ++ items_line name items

-- the same of a node
abbrev pub link_since_text : Network → List (List ℕ) → ReportValue → ℕ → List ℕ
link_since_text net lists r child =
    since_head (name_at net child) (name_above net child) (capacity_into net child)
    (unwrap_or (acked_at r child) 0)
    ++ since_lists (garbage_into net child) (backlog_at lists child) (name_above net child)
    (list_above net r child) (name_at net child) (received_at r child)

-- what is said of a broken part
abbrev pub broken_since_text : Network → List (List ℕ) → ReportValue → BrokenSince → List ℕ
broken_since_text net lists r broken.Published =
    published_text (name_at net (root_of net.tree.parents)) net.published
    (received_at r (root_of net.tree.parents))
broken_since_text net lists r broken.RootCount =
    root_count_text (name_at net (root_of net.tree.parents))
broken_since_text net lists r (broken.NoCount child) = no_count_text (name_at net child)
broken_since_text net lists r (broken.LinkLaw child) = link_since_text net lists r child
broken_since_text net lists r (broken.HandedOn child) =
    handed_on_text (name_at net child) (name_above net child)
    (length (backlog_at lists child) + length (list_above net r child))
    (unwrap_or (acked_at r child) 0)

-- the text says that the report obeys, or which part is broken first; each node before it obeys
abbrev pub SaysSince : Network → List (List ℕ) → ReportValue → Bool → List ℕ → Type 0
SaysSince net lists r true text = text ≡ codes "obeys\n"
SaysSince net lists r false text =
    (part : BrokenSince) × IsBrokenSince net lists r part × IsFirstSince net lists r part
    × (text ≡ broken_since_text net lists r part)
