-- The laws of a node in the tree, over lists and places alone: what a node received are strays from
-- the links on its path, then published items, and only few published items before its last one are
-- missing.
-- Example: Node b of the example two_links_under_one_schedule received 98, 15, 16. Its path garbage
-- is 98, of the link into b, and then 99, of the link into a. 98 is picked from these at place 0,
-- and one stray is at most 1 + 1. 15 and 16 are picked from the published 10 to 16 at the places 5
-- and 6. Nothing is missing from 3 + 3 = 6 on before place 6. With a bound of 4 in place of 6 the
-- law would fail: 4 is below 5, and 4 is not among the places. With the bound 6 even the complete
-- law holds: of the numbers from 6 on there is only 6, which b has. Had b received 98, 15 alone,
-- the tree law would hold and the complete law would not. Where the link into b has capacity 2, as
-- in the example a_wider_second_link, the bounds of b are 1 + 2 = 3 strays and 3 + 5 = 8. If a's
-- list began with the opening 50, 51 under an `h` of 2, then b's path garbage would be 98, 50, 51,
-- 99: b has no opening, and that of a comes before the item of its link. The strays of b would be
-- at most (1 + 1) + (0 + 2) = 4, those of a at most 1 + 2 = 3, and the other bounds would stay 6
-- and 3.
-- Source: this project's own; no number here is ascribed to the book.
use Rattle.std.specs.Prelude.{◌≡◌, ℕ, ◌<◌, ◌≤◌, List, ◌++◌, length, Contains}
use Rattle.stab_core.specs.LinkLaw.{NoneMissingFrom}
use Rattle.stab_core.specs.Picks.{Picks}

-- With these places in the published list: the received list is few strays, picked from the garbage
-- on the path, then items picked from the published list at those places.
pub record HalfTreeLawAt (most_strays : ℕ) (garbage published received places : List ℕ)
    : Type 0 where
  pub strays : List ℕ
  pub stray_places : List ℕ
  pub taken : List ℕ
  pub parts : received ≡ strays ++ taken
  pub few_strays : length strays ≤ most_strays
  pub strays_picked : Picks garbage stray_places strays
  pub taken_picked : Picks published places taken

-- the half tree law
abbrev pub HalfTreeLaw : ℕ → List ℕ → List ℕ → List ℕ → Type 0
HalfTreeLaw most_strays garbage published received =
    (places : List ℕ) × HalfTreeLawAt most_strays garbage published received places

-- before each of these places no place is missing, except among the first ones
abbrev pub NoneMissingBefore : ℕ → List ℕ → Type 0
NoneMissingBefore most_missing places =
    (i q : ℕ) → most_missing ≤ i → i < q → Contains places q → Contains places i

-- the tree law: the half tree law, and for the same places none is missing before the last
abbrev pub TreeLaw : ℕ → ℕ → List ℕ → List ℕ → List ℕ → Type 0
TreeLaw most_strays most_missing garbage published received =
    (places : List ℕ) × HalfTreeLawAt most_strays garbage published received places
    × NoneMissingBefore most_missing places

-- the complete law: the half tree law, and for the same places no published item is missing, except
-- among the first ones
abbrev pub CompleteLaw : ℕ → ℕ → List ℕ → List ℕ → List ℕ → Type 0
CompleteLaw most_strays most_missing garbage published received =
    (places : List ℕ) × HalfTreeLawAt most_strays garbage published received places
    × NoneMissingFrom most_missing (length published) places
