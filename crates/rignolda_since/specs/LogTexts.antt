-- What is said of logs: that they obey, or which part is broken first, with its lists.
-- Source: this project's own; numbers are in plain decimal, as std prints them.
use Rattle.std.specs.Prelude.{◌≡◌, ℕ, Bool, true, false, List, [], ◌++◌, codes, decimal}
use Rattle.std.specs.Prelude.{slice_index_or}
use Rattle.std.specs.Option.{option_map_or}
use Rattle.stab_core.specs.Texts.{number_entry, numbers_line}
use Rattle.stab_tree.specs.Nodes.{parent_at}
use Rattle.stab_treecore.specs.Network.{Network}
use Rattle.stab_treecore.specs.SharperLaw.{fewest_missing, missing_without_strays}
use Rattle.rignolda_since.specs.Logs.{LogsValue, received_at}
use Rattle.rignolda_since.specs.ObeysLogs.{IsBrokenLog, IsFirstLog, counted, strays_at}
use Rattle.rignolda_since.specs.ObeysLogs.{strays_into}
use Rattle.rignolda_since.specs.declared.broken_log.BrokenLog.{BrokenLog}
use Rattle.rignolda_since.specs.declared.broken_log.BrokenLog.TheVariants as broken

-- the name of a node
abbrev pub name_at : Network → ℕ → List ℕ
name_at net node = slice_index_or net.tree.names node []

-- a node received more strays than the `most` that it may, or items in another order
unfoldable pub strays_words : ℕ → List ℕ
strays_words most =
    codes ": it received more strays than C + E = " ++ decimal most
    ++ codes ", or published items out of order or twice\n"

-- one more may be missing for each stray, and in any case only some of this many first ones
unfoldable pub fewest_words : ℕ → List ℕ
fewest_words fewest =
    codes " and one more for each stray, at most the first " ++ decimal fewest ++ codes "\n"

-- published items are missing at a node
unfoldable pub missing_head : List ℕ
missing_head =
    codes ": published items before its last one are missing, not only among the first"

-- the same, where only some of these first ones may be missing
unfoldable pub missing_words : ℕ → ℕ → List ℕ
missing_words without_strays fewest =
    missing_head ++ number_entry without_strays ++ fewest_words fewest

-- beside at most `most` strays a node received something that its parent did not
unfoldable pub parent_words : ℕ → List ℕ
parent_words most =
    codes ": it received more strays than c + h = " ++ decimal most
    ++ codes ", or its parent's items out of order or twice\n"

-- what the parent of a node received, and what the node received
unfoldable pub parent_lists : List ℕ → List ℕ → List ℕ
parent_lists above received =
    numbers_line (codes "parent received:") above ++ numbers_line (codes "received:") received

-- what is published in the count of a node, and what it received
unfoldable pub log_lists : List ℕ → List ℕ → List ℕ
log_lists published received =
    numbers_line (codes "published:") published ++ numbers_line (codes "received:") received

-- the same of a node
abbrev pub lists_of : Network → LogsValue → ℕ → List ℕ
lists_of net logs node = log_lists (counted net logs node) (received_at logs node)

-- what the parent of a node received
abbrev pub received_above : Network → LogsValue → ℕ → List ℕ
received_above net logs node =
    option_map_or (received_at logs) (parent_at net.tree.parents node) []

-- what is said of a broken part
abbrev pub broken_log_text : Network → LogsValue → BrokenLog → List ℕ
broken_log_text net logs (broken.Strays node) =
    name_at net node ++ strays_words (strays_at net node) ++ lists_of net logs node
broken_log_text net logs (broken.Missing node) =
    name_at net node
    ++ missing_words (missing_without_strays net node) (fewest_missing net node)
    ++ lists_of net logs node
broken_log_text net logs (broken.Parent node) =
    name_at net node ++ parent_words (strays_into net node)
    ++ parent_lists (received_above net logs node) (received_at logs node)

-- the text says that the logs obey, or which part is broken first; each node before it obeys
abbrev pub SaysLogs : Network → LogsValue → Bool → List ℕ → Type 0
SaysLogs net logs true text = text ≡ codes "obeys\n"
SaysLogs net logs false text =
    (part : BrokenLog) × IsBrokenLog net logs part × IsFirstLog net logs part
    × (text ≡ broken_log_text net logs part)
