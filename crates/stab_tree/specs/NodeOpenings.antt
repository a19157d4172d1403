-- Openings: what inner nodes begin with, items that nobody published. An inner node is neither the
-- root nor a leaf.
-- Example: Nodes r, a, b with the parents nothing, 0, 1: a link leads into a and one leads from it,
-- so a alone is inner, and with the hold 2 `hold_at` is 0, 2, 0. The lists none, 50 51, none: 2 is
-- at most 64, there are three lists, items are at a alone, and no list has more than 2; so they
-- fit. With the lists 1, none, none the fault is `OpeningPlace`, and so it is with none, none, 1 2
-- 3, since places are checked before lengths. With none, 1 2 3, none it is `OpeningTooLong`, with
-- two lists `OpeningCount`, and with the hold 65 `HoldOutOfRange`, whatever the lists are.
-- Source: this project's profile.
use Rattle.std.specs.List.{list_any}
use Rattle.std.specs.Option.{option_map_or}
use Rattle.std.specs.Prelude.{◌≡◌, ℕ, ◌+◌, ◌==◌, ◌&&◌, ◌||◌, Bool, false, not, nat_lt}
use Rattle.std.specs.Prelude.{if◌then◌else◌}
use Rattle.std.specs.Prelude.{List, [], ◌∷◌, length, slice_index_or, Option, Some, None, is_some}
use Rattle.stab_tree.specs.Nodes.{parent_at}
use Rattle.stab_tree.specs.declared.opening_fault.OpeningFault.{OpeningFault}
use Rattle.stab_tree.specs.declared.opening_fault.OpeningFault.TheVariants as fault

-- the most items that any opening that is read may have
abbrev pub most_hold : ℕ
most_hold = 64

-- how many items an opening has at most, and the opening of each node, in file order
pub record OpeningsValue : Type 0 where
  pub hold : ℕ
  pub lists : List (List ℕ)

-- the opening of a node
abbrev pub opening_at : List (List ℕ) → ℕ → List ℕ
opening_at lists node = slice_index_or lists node []

-- a link leads from this node
abbrev pub has_child : List (Option ℕ) → ℕ → Bool
has_child parents node =
    list_any (λ parent. option_map_or (λ its_parent. its_parent == node) parent false) parents

-- a link leads into this node, and one leads from it
abbrev pub is_inner : List (Option ℕ) → ℕ → Bool
is_inner parents node = is_some (parent_at parents node) && has_child parents node

-- how many items a node's opening has at most: none at the root and at a leaf
abbrev pub hold_at : List (Option ℕ) → ℕ → ℕ → ℕ
hold_at parents hold node = if is_inner parents node then hold else 0

-- one of these openings, the first of which is that of this node, has items and is at no inner node
abbrev pub is_misplaced : List (Option ℕ) → ℕ → List (List ℕ) → Bool
is_misplaced parents node [] = false
is_misplaced parents node (list ∷ lists) =
    (nat_lt 0 (length list) && not (is_inner parents node))
    || is_misplaced parents (node + 1) lists

-- why these lists do not fit a tree with these parents, however many items one of them may have:
-- the first check that fails
abbrev pub lists_fault : List (Option ℕ) → ℕ → List (List ℕ) → Option OpeningFault
lists_fault parents hold lists =
    if not (length lists == length parents) then Some fault.OpeningCount
    else if is_misplaced parents 0 lists then Some fault.OpeningPlace
    else if list_any (λ list. nat_lt hold (length list)) lists then Some fault.OpeningTooLong
    else None

-- why these lists are not read as the openings of a tree: the first check that fails
abbrev pub openings_fault : List (Option ℕ) → ℕ → List (List ℕ) → Option OpeningFault
openings_fault parents hold lists =
    if nat_lt most_hold hold then Some fault.HoldOutOfRange else lists_fault parents hold lists

-- these are openings of a tree with these parents; laws ask no more, and readers also refuse a hold
-- of more than 64
abbrev pub FitTree : List (Option ℕ) → OpeningsValue → Type 0
FitTree parents openings = lists_fault parents openings.hold openings.lists ≡ None
