-- Where a node stands between the bounds of its law: where each of its items comes from, how many
-- of them nobody published, and how many published items were passed over. A stray of a link has
-- its place among the frames of the start, at most 63; the item number i of the opening of node n
-- is the stray of place 64 (n + 1) + i.
-- Example: Over the link into b came 98 and 15 with the origins `Stray 0` and `Sent 2`. Place 2 of
-- the list of a, its parent, is the published item at place 5. So the origins at b are `Stray 0`
-- and `Sent 5`: 1 stray, and 5 items, 0 to 4, are missing before its last one. Had a, which is node
-- 1, begun with one item, that item would be `Stray 128`, also where it is handed on to b.
-- Source: this project's own.
use Rattle.std.specs.Prelude.{ℕ, zero, suc, ◌+◌, ◌*◌, List, [], ◌∷◌, ◌++◌, length, map}
use Rattle.std.specs.Prelude.{Bool, false, nat_le, nat_lt, slice_index_or, if◌then◌else◌}
use Rattle.std.specs.Option.{option_map_or}
use Rattle.stab_core.specs.declared.origin.Origin.{Origin}
use Rattle.stab_core.specs.declared.origin.Origin.TheVariants.{Stray, Sent}
use Rattle.stab_tree.specs.NodeOpenings.{hold_at, opening_at}
use Rattle.stab_tree.specs.Nodes.{parent_at}
use Rattle.stab_treecore.specs.Paths.{path_sum}
use Rattle.stab_page.specs.Standing.{missing_of}
use Rattle.stab_page.specs.TracedTree.{TracedTree, traced_into}

-- the origins of the first n published items
abbrev pub sent_to : ℕ → List Origin
sent_to zero = []
sent_to (suc n) = sent_to n ++ Sent n ∷ []

-- the origins of the first n items of the opening of a node
abbrev pub opened_to : ℕ → ℕ → List Origin
opened_to node zero = []
opened_to node (suc n) = opened_to node n ++ Stray (64 * (node + 1) + n) ∷ []

-- where an item comes from that a parent with these origins handed on; a stray of the link itself
-- remains one
abbrev pub through : List Origin → Origin → Origin
through above (Stray place) = Stray place
through above (Sent place) = slice_index_or above place (Stray 0)

-- where each item of a node comes from, looking up at most this many nodes
abbrev pub origins_above : TracedTree → ℕ → ℕ → List Origin
origins_above t zero node = []
origins_above t (suc count) node =
    option_map_or
    (λ link. opened_to node (length (opening_at t.openings.lists node))
    ++ map (through (option_map_or (origins_above t count) (parent_at t.parents node) []))
    link.traced.origins) (traced_into t node) (sent_to (length t.published))

-- where each item of a node comes from
abbrev pub node_origins : TracedTree → ℕ → List Origin
node_origins t node = origins_above t (length t.parents) node

-- this is a stray, of an opening or of a link
abbrev pub is_stray_of : Bool → Origin → Bool
is_stray_of opened (Stray place) = if opened then nat_le 64 place else nat_lt place 64
is_stray_of opened (Sent place) = false

-- how many strays of openings or of links there are
abbrev pub strays_of : Bool → List Origin → ℕ
strays_of opened [] = 0
strays_of opened (o ∷ os) = (if is_stray_of opened o then 1 else 0) + strays_of opened os

-- the place of the last published item among these, or this place where there is none
abbrev pub place_or : ℕ → Origin → ℕ
place_or before (Stray place) = before
place_or before (Sent place) = place

abbrev pub last_place : ℕ → List Origin → ℕ
last_place before [] = before
last_place before (o ∷ os) = last_place (place_or before o) os

-- how many published items before the last of these are not among them
abbrev pub passed_over : List Origin → ℕ
passed_over os = missing_of (last_place 0 os) os

-- the capacity of the link into a node
abbrev pub capacity_at : TracedTree → ℕ → ℕ
capacity_at t node = option_map_or (λ link. link.params.capacity) (traced_into t node) 0

-- the most strays of links at a node: the capacities of the links on its path, added
abbrev pub strays_at_most : TracedTree → ℕ → ℕ
strays_at_most t node = path_sum t.parents (capacity_at t) node

-- the most strays of openings at a node: what each inner node of its path may hold, added
abbrev pub held_at_most : TracedTree → ℕ → ℕ
held_at_most t node = path_sum t.parents (hold_at t.parents t.openings.hold) node

-- the most missing items before the last of a node: 2c + 1 for each link on its path, added
abbrev pub missing_at_most : TracedTree → ℕ → ℕ
missing_at_most t node = path_sum t.parents (λ child. 2 * capacity_at t child + 1) node
