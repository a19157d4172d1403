-- What is asked of nodes that ended with their upstream: such a node handed on all that it had, and
-- below nodes that all ended so no published item is missing, except among the first ones.
-- Example: The root r published 10, 11, 12, 13, 14 and ended with its upstream. One link of
-- capacity 1 leads into a. `HandsOn` asks that 5 items are acknowledged on it. If r had 7 for a at
-- some moment, and received these five since, it asks for 6. Each node above a ended with its
-- upstream. So a has 12, 13, 14 where it received no stray: only the first 1 + 1 = 2 may be
-- missing. Where it received the stray 99, 12 may be missing too. Had r not ended so, nothing would
-- be asked, and 13 and 14 might be missing. Source: this project's own.
use Rattle.std.specs.Prelude.{◌≡◌, ℕ, suc, ◌<◌, true, List, length, Option, Some}
use Rattle.stab_core.specs.LinkLaw.{SharperLinkLaw}
use Rattle.stab_tree.specs.Nodes.{parent_at}
use Rattle.stab_tree.specs.Steps.{ancestor}
use Rattle.stab_treecore.specs.Network.{Network}
use Rattle.stab_treecore.specs.NodeLaws.{LawInto, most_strays, path_garbage}
use Rattle.stab_treecore.specs.SharperLaw.{SharperCompleteLaw, fewest_missing}
use Rattle.stab_treecore.specs.SharperLaw.{missing_without_strays}
use Rattle.stab_report.specs.Reports.{ReportValue, received_at, acked_at, has_ended}

-- where the parent ended with its upstream, all that it had for this child is acknowledged
abbrev pub HandsOn : ReportValue → ℕ → ℕ → List ℕ → Type 0
HandsOn r child parent had =
    has_ended r parent ≡ true → acked_at r child ≡ Some (length had)

-- each node hands on to each child what it received
abbrev pub AllHandOn : List (Option ℕ) → ReportValue → Type 0
AllHandOn parents r =
    (child parent : ℕ) → parent_at parents child ≡ Some parent
    → HandsOn r child parent (received_at r parent)

-- each node above this one ended with its upstream
abbrev pub AllAboveEnded : List (Option ℕ) → ReportValue → ℕ → Type 0
AllAboveEnded parents r node =
    (steps above : ℕ) → ancestor parents (suc steps) node ≡ Some above
    → has_ended r above ≡ true

-- no published item is missing at such a node, except among the first ones that the sharper law has
abbrev pub CompleteBelowEnded : Network → ReportValue → Type 0
CompleteBelowEnded net r =
    (node : ℕ) → node < length net.tree.parents → AllAboveEnded net.tree.parents r node
    → SharperCompleteLaw (most_strays net node) (missing_without_strays net node)
    (fewest_missing net node) (path_garbage net node) net.published (received_at r node)

-- the link into a child obeys the sharper link law, with as many items acknowledged as the report
-- says
abbrev pub ObeysAsCounted : Network → ReportValue → ℕ → ℕ → Type 0
ObeysAsCounted net r child parent =
    LawInto (λ capacity start_items offered acked delivered.
    (acked_at r child ≡ Some acked)
    × SharperLinkLaw capacity start_items offered acked delivered)
    net child (received_at r parent) (received_at r child)
