-- How the bounds of the nodes of a network are printed: for each node in file order a line with the
-- sums C, E and M and what they mean for it; then how many items the sharper law says can be
-- missing, after how many reading rounds all has arrived, and what faults cost in a tree that has
-- come to rest.
-- Example: Of a leaf a below the root, under a link of capacity 3, where nothing is held at first
-- and 2 items are published, these five lines, of which the first is one line:
-- `a depth 1: at most 3 strays (C 3 + E 0), then published items in order; of those before its last
-- one only some of the first 7 (M) can be missing`
-- `a misses only some of the first 4, of one more for each stray that it received, and at most of
-- the first 7`
-- `a has all but these after 3 reading rounds of its path: 2 for the published items, and 1 more`
-- `a after a strike at the link into it: at most 3 strays, and only some of the next 7 items can be
-- missing`
-- `a after its restart: as much`
-- Source: this project's own; numbers are in plain decimal, as std prints them.
use Rattle.std.specs.Prelude.{ℕ, ◌+◌, ◌-◌, ◌==◌, List, [], ◌++◌, length, codes, decimal}
use Rattle.std.specs.Prelude.{if◌then◌else◌, slice_index_or}
use Rattle.std.specs.List.{flat_map, range_with_len}
use Rattle.std.specs.Option.{option_map_or}
use Rattle.stab_convergence.specs.Arrival.{arrival_reading_rounds}
use Rattle.stab_core.specs.Texts.{number_entry}
use Rattle.stab_tree.specs.Nodes.{parent_at}
use Rattle.stab_tree.specs.Steps.{depth_of}
use Rattle.stab_treecore.specs.Network.{Network}
use Rattle.stab_treecore.specs.NodeLaws.{capacity_into, held_bound, most_missing, strays_bound}
use Rattle.stab_treecore.specs.SharperLaw.{fewest_missing, missing_without_strays}
use Rattle.rignolda_verdict.specs.Costs.{greatest_below, missing_of}

-- the name of a node
abbrev pub name_at : Network → ℕ → List ℕ
name_at net node = slice_index_or net.tree.names node []

-- at most `count` strays
unfoldable pub strays_words : ℕ → List ℕ
strays_words count =
    if count == 0 then codes "no strays" else (if count == 1 then codes "at most 1 stray" else
    codes "at most " ++ decimal count ++ codes " strays")

-- the two sums that the strays of a node are bounded by
unfoldable pub sums_words : ℕ → ℕ → List ℕ
sums_words c e = codes " (C " ++ decimal c ++ codes " + E " ++ decimal e ++ codes ")"

-- what is said of the items of a node of which some of this many first ones may be missing
unfoldable pub missing_words : ℕ → List ℕ
missing_words m =
    if m == 0 then codes ", all published items in order\n" else
    codes ", then published items in order; of those before its last one only some of the first "
    ++ decimal m ++ codes " (M) can be missing\n"

-- the line of a node of this name and depth, and of these sums
unfoldable pub node_bounds : List ℕ → ℕ → ℕ → ℕ → ℕ → List ℕ
node_bounds name depth c e m =
    name ++ codes " depth" ++ number_entry depth ++ codes ": " ++ strays_words (c + e)
    ++ sums_words c e ++ missing_words m

-- how many more can be missing for strays, and how many whatever was received
unfoldable pub fewest_words : ℕ → List ℕ
fewest_words fewest =
    codes ", of one more for each stray that it received, and at most of the first"
    ++ number_entry fewest ++ codes "\n"

-- how many can be missing at a node of this name without strays, and whatever it received
unfoldable pub sharper_line : List ℕ → ℕ → ℕ → List ℕ
sharper_line name without_strays fewest =
    name ++ codes " misses only some of the first" ++ number_entry without_strays
    ++ fewest_words fewest

-- the line of a node
abbrev pub bounds_line : Network → ℕ → List ℕ
bounds_line net node =
    node_bounds (name_at net node) (depth_of net.tree.parents node) (strays_bound net node)
    (held_bound net node) (most_missing net node)

-- how many rounds there are beside those for published items
unfoldable pub more_words : ℕ → List ℕ
more_words more = number_entry more ++ codes " more\n"

-- how many of the rounds are for published items, and how many more there are
unfoldable pub parts_words : ℕ → ℕ → List ℕ
parts_words published more =
    number_entry published ++ codes " for the published items, and" ++ more_words more

-- how many reading rounds of its path bring everything to a node, and what they are for
unfoldable pub rounds_words : ℕ → ℕ → List ℕ
rounds_words rounds published =
    number_entry rounds ++ codes " reading rounds of its path:"
    ++ parts_words published (rounds - published)

-- the line that says when all has arrived at a node of this name, where `published` items are
-- published
unfoldable pub arrival_line : List ℕ → ℕ → ℕ → List ℕ
arrival_line name rounds published =
    name ++ codes " has all but these after" ++ rounds_words rounds published

-- what a fault costs: at most `strays` strays, and some of the next `missing` items
unfoldable pub cost_words : ℕ → ℕ → List ℕ
cost_words strays missing =
    strays_words strays ++ codes ", and only some of the next" ++ number_entry missing
    ++ codes " items can be missing"

-- the end of the line of a strike: what is beneath, if anything is, pays no more
unfoldable pub no_more_words : ℕ → List ℕ
no_more_words below = if below == 0 then codes "\n" else codes "; beneath it no more\n"

-- the line of a strike at a link of this capacity, and the greatest capacity of those beneath
unfoldable pub strike_line : List ℕ → ℕ → ℕ → List ℕ
strike_line name capacity below =
    name ++ codes " after a strike at the link into it: "
    ++ cost_words capacity (missing_of capacity) ++ no_more_words below

-- the line of a restart of a leaf
unfoldable pub leaf_line : List ℕ → List ℕ
leaf_line name = name ++ codes " after its restart: as much\n"

-- the line of a restart that costs what is beneath at most `strays` strays, and some of the next
-- `missing` items
unfoldable pub inner_line : List ℕ → ℕ → ℕ → List ℕ
inner_line name strays missing =
    name ++ codes " after its restart: as much; beneath it, beside its new list, "
    ++ cost_words strays missing ++ codes "\n"

-- the line of a restart of a node under a link of this capacity
unfoldable pub restart_line : List ℕ → ℕ → ℕ → List ℕ
restart_line name capacity below =
    if below == 0 then leaf_line name
    else inner_line name (capacity + below) (missing_of capacity + missing_of below)

-- the line of a restart of the root, whose list is what is published
unfoldable pub published_line : List ℕ → ℕ → List ℕ
published_line name below =
    name ++ codes " after its restart: beneath it " ++ cost_words below (missing_of below)
    ++ codes "\n"

-- the same, if there is a node beneath
unfoldable pub root_line : List ℕ → ℕ → List ℕ
root_line name below = if below == 0 then [] else published_line name below

-- the lines of what faults cost a node that is not the root, and what is beneath it
unfoldable pub fault_lines : List ℕ → ℕ → ℕ → List ℕ
fault_lines name capacity below =
    strike_line name capacity below ++ restart_line name capacity below

-- the lines of a node that is not the root on when all has arrived, and on what faults cost
abbrev pub later_lines : Network → ℕ → List ℕ
later_lines net node =
    arrival_line (name_at net node) (arrival_reading_rounds net node) (length net.published)
    ++ fault_lines (name_at net node) (capacity_into net node) (greatest_below net node)

-- the lines after the first one of a node that is not the root
unfoldable pub lines_below_root : Network → ℕ → List ℕ
lines_below_root net node =
    sharper_line (name_at net node) (missing_without_strays net node) (fewest_missing net node)
    ++ later_lines net node

-- the lines of a node
abbrev pub node_lines : Network → ℕ → List ℕ
node_lines net node =
    bounds_line net node
    ++ option_map_or (λ parent. lines_below_root net node) (parent_at net.tree.parents node)
    (root_line (name_at net node) (greatest_below net node))

-- the lines of the nodes
unfoldable pub bounds_text : Network → List ℕ
bounds_text net = flat_map (node_lines net) (range_with_len 0 (length net.tree.parents))
