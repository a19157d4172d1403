-- The laws of one link, over lists and places alone: what was delivered comes from the start's
-- frames and then from the offered list, and only few acknowledged items are missing.
-- They know no queue, event or label. `LinkLawWithin` takes both bounds, and the link law is it at
-- `c` and `2c + 1`.
-- Example: The worst start: 3 acknowledged, 4 offered, and 3 <= 4 <= 4. The delivered list 99, 13
-- is 99 and then 13. 99 is picked from the start's items, 99 alone, at place 0, and one stray is at
-- most `c` = 1. 13 is picked from the offered list at place 3. None is missing from number 2c + 1 =
-- 3 on that is below 3: there is no such number. So the law holds, and it could not be sharper
-- here: 0, 1 and 2 are all acknowledged and all missing.
-- Source: this project's own; no number here is ascribed to the book.
use Rattle.std.specs.Prelude.{◌≡◌, ℕ, ◌+◌, ◌*◌, ◌<◌, ◌≤◌, List, ◌++◌, length, Contains}
use Rattle.stab_core.specs.Picks.{Picks}

-- With these places in the offered list: all offered items but at most the last are acknowledged,
-- and the delivered list is strays picked from the start's items, then items picked from the
-- offered list at those places.
pub record HalfLawAt (most_strays : ℕ) (start_items offered : List ℕ) (acked : ℕ)
    (delivered places : List ℕ) : Type 0 where
  pub acked_were_offered : acked ≤ length offered
  pub one_waits_at_most : length offered ≤ acked + 1
  pub strays : List ℕ
  pub stray_places : List ℕ
  pub taken : List ℕ
  pub parts : delivered ≡ strays ++ taken
  pub few_strays : length strays ≤ most_strays
  pub strays_picked : Picks start_items stray_places strays
  pub taken_picked : Picks offered places taken

-- the half law: there are at most this many strays
abbrev pub HalfLaw : ℕ → List ℕ → List ℕ → ℕ → List ℕ → Type 0
HalfLaw most_strays start_items offered acked delivered =
    (places : List ℕ) × HalfLawAt most_strays start_items offered acked delivered places

-- from this place on, no acknowledged item is missing from these places
abbrev pub NoneMissingFrom : ℕ → ℕ → List ℕ → Type 0
NoneMissingFrom first acked places = (i : ℕ) → first ≤ i → i < acked → Contains places i

-- the link law with these bounds: the half law, and for the same places only some of the first
-- acknowledged items are missing
abbrev pub LinkLawWithin : ℕ → ℕ → List ℕ → List ℕ → ℕ → List ℕ → Type 0
LinkLawWithin most_strays most_missing start_items offered acked delivered =
    (places : List ℕ)
    × HalfLawAt most_strays start_items offered acked delivered places
    × NoneMissingFrom most_missing acked places

-- of the acknowledged items only some among the first 2c + 1 are missing from these places
abbrev pub NoneMissing : ℕ → ℕ → List ℕ → Type 0
NoneMissing capacity = NoneMissingFrom (2 * capacity + 1)

-- the link law: at most c strays, and only some of the first 2c + 1 acknowledged items are missing
abbrev pub LinkLaw : ℕ → List ℕ → List ℕ → ℕ → List ℕ → Type 0
LinkLaw capacity = LinkLawWithin capacity (2 * capacity + 1)

-- The sharper link law: of the acknowledged items only some among the first c + 1 are missing, and
-- among one more for each stray that was delivered. With no stray these are c + 1, and with c of
-- them 2c + 1, as in the link law.
abbrev pub SharperLinkLaw : ℕ → List ℕ → List ℕ → ℕ → List ℕ → Type 0
SharperLinkLaw capacity start_items offered acked delivered =
    (places : List ℕ) × (half : HalfLawAt capacity start_items offered acked delivered places)
    × NoneMissingFrom (capacity + 1 + length half.strays) acked places
