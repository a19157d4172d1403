-- Picks: a list is picked from another at strictly rising places. Places are meant, not values:
-- equal items count apart.
-- Source: this project's own.
use Rattle.std.specs.Prelude.{◌≡◌, ℕ, ◌+◌, ◌<◌, ◌≤◌, List, [], ◌∷◌, length, map, slice_index}

-- the places rise strictly, and the first is no lower than this one
abbrev pub RisesFrom : ℕ → List ℕ → Type 0
RisesFrom lowest [] = Unit {0}
RisesFrom lowest (place ∷ places) = (lowest ≤ place) × RisesFrom (place + 1) places

-- each place is below this bound
abbrev pub AllBelow : ℕ → List ℕ → Type 0
AllBelow bound [] = Unit {0}
AllBelow bound (place ∷ places) = (place < bound) × AllBelow bound places

-- picked has the items of the list at these places, in their order
pub record Picks (items places picked : List ℕ) : Type 0 where
  pub rising : RisesFrom 0 places
  pub in_list : AllBelow (length items) places
  pub the_items : picked ≡ map (λ place. slice_index items place) places
