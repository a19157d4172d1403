-- The report of a tree: what a page shows, as one list of numbers. For each node, in file order,
-- there is the report of the link into it, then where its items come from, and where it stands
-- between its bounds; and after all nodes there are the effects.
-- Source: this project's own.
use Rattle.std.specs.Prelude.{ℕ, zero, suc, ◌&&◌, Bool, List, [], ◌∷◌, ◌++◌, length, map, nat_le}
use Rattle.std.specs.Prelude.{Option, true, false, if◌then◌else◌}
use Rattle.std.specs.List.{flat_map, list_all}
use Rattle.std.specs.Option.{option_map_or}
use Rattle.stab_core.specs.declared.event.Effect.{Effect}
use Rattle.stab_core.specs.declared.origin.Origin.{Origin}
use Rattle.stab_tree.specs.NodeOpenings.{OpeningsValue}
use Rattle.stab_treecore.specs.declared.event.TreeEvent.{TreeEvent}
use Rattle.stab_page.specs.Report.{effect_number, origin_numbers, report}
use Rattle.stab_page.specs.TracedTree.{TracedTree, traced_into, traced_initial_tree}
use Rattle.stab_page.specs.TracedTree.{traced_tree_replay, tree_effects}
use Rattle.stab_page.specs.TreeCodes.{fits, setup_of}
use Rattle.stab_page.specs.TreeStanding.{node_origins, passed_over, strays_at_most, strays_of}
use Rattle.stab_page.specs.TreeStanding.{held_at_most, missing_at_most}
use Rattle.stab_page.specs.declared.tree_code.LinkCode.{LinkCode}

-- the report of a link, and nothing at the root
abbrev pub link_numbers : TracedTree → ℕ → List ℕ
link_numbers t node = option_map_or (λ link. report link.traced []) (traced_into t node) []

-- the strays of a node that come of links and their bound, those that come of openings and theirs,
-- and its missing items and theirs
abbrev pub standing_numbers : TracedTree → ℕ → List ℕ
standing_numbers t node =
    strays_of false (node_origins t node) ∷ strays_at_most t node
    ∷ strays_of true (node_origins t node) ∷ held_at_most t node
    ∷ passed_over (node_origins t node) ∷ missing_at_most t node ∷ []

-- how many items a node has, and where each comes from
abbrev pub list_numbers : List Origin → List ℕ
list_numbers os = length os ∷ flat_map origin_numbers os

abbrev pub node_numbers : TracedTree → ℕ → List ℕ
node_numbers t node =
    link_numbers t node ++ list_numbers (node_origins t node) ++ standing_numbers t node

-- the numbers of the first n nodes
abbrev pub numbers_to : TracedTree → ℕ → List ℕ
numbers_to t zero = []
numbers_to t (suc n) = numbers_to t n ++ node_numbers t n

abbrev pub tree_report : TracedTree → List Effect → List ℕ
tree_report t had = numbers_to t (length t.parents) ++ length had ∷ map effect_number had

-- there are 1 to 8 nodes, and no more links than these, which all fit; there are at most 256
-- published items and as many events, and no less room for numbers than this
abbrev pub tree_is_accepted : List (Option ℕ) → List LinkCode → List ℕ → List TreeEvent → ℕ → Bool
tree_is_accepted parents links published events room =
    nat_le 1 (length parents) && nat_le (length parents) 8 && list_all fits links
    && nat_le (length published) 256 && nat_le (length events) 256 && nat_le 32768 room

-- the report of the state after these events, or nothing where they are not accepted
abbrev pub tree_answer : List (Option ℕ) → OpeningsValue → List LinkCode → List ℕ
    → List TreeEvent → ℕ → List ℕ
tree_answer parents openings links published events room =
    let initial : TracedTree =
    traced_initial_tree parents openings (map setup_of links) published in
    if tree_is_accepted parents links published events room
    then tree_report (traced_tree_replay initial events) (tree_effects initial events)
    else []
