-- What the lines of a text show: numbers, whatever else is in them.
-- Example: `frames: 2=99 0=7` shows the numbers 2, 99, 0, 7, and `items:` shows none. `acked 07`
-- does not show 7, since that is not how 7 is printed.
-- Source: this project's own; numbers are in plain decimal, as std prints them.
use Rattle.std.specs.Prelude.{◌≡◌, ⊤, ◌<◌, ◌^◌, ◌==◌, ℕ, false, List, [], ◌∷◌, ◌++◌, decimal}
use Rattle.std.specs.Prelude.{All, IfSome, Option}
use Rattle.std.specs.Char.{is_ascii_digit}
use Rattle.std.specs.List.{list_any}

-- there is no newline in the text
abbrev pub IsOneLine : List ℕ → Type 0
IsOneLine text = list_any (λ byte. byte == 10) text ≡ false

-- there is no digit in the text
abbrev pub HasNoDigit : List ℕ → Type 0
HasNoDigit text = list_any is_ascii_digit text ≡ false

-- the text does not begin with a digit
abbrev pub BeginsWithNoDigit : List ℕ → Type 0
BeginsWithNoDigit [] = ⊤
BeginsWithNoDigit (byte ∷ text) = is_ascii_digit byte ≡ false

-- the text has these numbers, each below 2 ^ 32, and no other digits
abbrev pub Shows : List ℕ → List ℕ → Type 0
Shows text [] = HasNoDigit text
Shows text (n ∷ ns) =
    (gap rest : List ℕ) × (text ≡ gap ++ (decimal n ++ rest)) × HasNoDigit gap
    × BeginsWithNoDigit rest × (n < 2 ^ 32) × Shows rest ns

-- each is an item: a number below 2 ^ 32
abbrev pub AreItems : List ℕ → Type 0
AreItems items = All (λ item. item < 2 ^ 32) items

-- a count is below 2 ^ 64
abbrev pub IsCount : Option ℕ → Type 0
IsCount count = IfSome count (λ acked. acked < 2 ^ 64)
