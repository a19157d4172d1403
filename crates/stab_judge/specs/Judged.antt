-- What the deciders decide, beside the laws themselves: lists that are picked from others, alone,
-- after strays, and before a tail.
-- Example: Of 7, 8, 8 there are picked 7, 8 (places 0 and 1, or 0 and 2) and 8, 8, but not 8, 7.
-- The list 99, 7, 8 splits with one stray over the garbage 98, 99 and the items 7, 8, 8: the stray
-- 99, and then 7, 8. It ends with two first items of the pattern 7, 8, 9, and with no more.
-- Source: this project's own.
use Rattle.std.specs.Prelude.{◌≡◌, ℕ, ◌+◌, ◌<◌, ◌≤◌, List, ◌++◌, length, take, drop, slice_index}
use mathlib.Core.List.{IsPrefix}
use Rattle.stab_core.specs.LinkLaw.{SharperLinkLaw}
use Rattle.stab_core.specs.Picks.{Picks}

-- the first list is picked from the second, at some places
abbrev pub IsPicked : List ℕ → List ℕ → Type 0
IsPicked part whole = (places : List ℕ) × Picks whole places part

-- few strays picked from the garbage, then items picked from the list
pub record Splits (most_strays : ℕ) (garbage items body : List ℕ) : Type 0 where
  pub strays : List ℕ
  pub taken : List ℕ
  pub parts : body ≡ strays ++ taken
  pub few_strays : length strays ≤ most_strays
  pub strays_picked : IsPicked strays garbage
  pub taken_picked : IsPicked taken items

-- the same, and then the whole tail
pub record SplitsBefore (most_strays : ℕ) (garbage items tail delivered : List ℕ) : Type 0 where
  pub body : List ℕ
  pub ends : delivered ≡ body ++ tail
  pub splits : Splits most_strays garbage items body

-- the text ends with this many first items of the pattern
abbrev pub EndsWith : ℕ → List ℕ → List ℕ → Type 0
EndsWith count pattern text = (rest : List ℕ) × (text ≡ rest ++ take count pattern)

-- the most first items of the pattern that the text ends with
pub record Longest (count : ℕ) (pattern text : List ℕ) : Type 0 where
  pub within : count ≤ length pattern
  pub ends : EndsWith count pattern text
  pub most : (n : ℕ) → n ≤ length pattern → EndsWith n pattern text → n ≤ count

-- for each of the first fronts of the pattern, the most first items that it ends with beside itself
abbrev pub FailsTo : List ℕ → List ℕ → ℕ → Type 0
FailsTo pattern fails count =
    (i : ℕ) → i < count → Longest (slice_index fails i) pattern (drop 1 (take (i + 1) pattern))

-- some prefix of the list above was offered, and this many items of it are acknowledged
abbrev pub SharperLawBelow : ℕ → List ℕ → List ℕ → ℕ → List ℕ → Type 0
SharperLawBelow capacity start_items above acked delivered =
    (offered : List ℕ) × IsPrefix offered above
    × SharperLinkLaw capacity start_items offered acked delivered
