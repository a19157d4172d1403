-- A node's name is 1 to 32 bytes of a to z, 0 to 9, _ and - (this project's profile).
use Rattle.std.specs.Prelude.{ℕ, List, [], ◌∷◌, length, Bool, false, ◌&&◌, ◌||◌, ◌==◌, nat_le}
use Rattle.std.specs.List.{list_all, list_any}
use Rattle.std.specs.Str.{byte, bytes_eq}

-- the most bytes that a name has
abbrev pub most_name : ℕ
most_name = 32

-- a byte from the first of two to the second
abbrev pub is_from_to : ℕ → ℕ → ℕ → Bool
is_from_to first last b = nat_le first b && nat_le b last

-- one of a to z, 0 to 9, _ and -
abbrev pub is_name_byte : ℕ → Bool
is_name_byte b =
    is_from_to (byte "a") (byte "z") b || is_from_to (byte "0") (byte "9") b
    || b == byte "_" || b == byte "-"

-- 1 to 32 such bytes
abbrev pub is_name : List ℕ → Bool
is_name s = nat_le 1 (length s) && nat_le (length s) most_name && list_all is_name_byte s

-- two names are the same
abbrev pub has_same_name : List (List ℕ) → Bool
has_same_name [] = false
has_same_name (name ∷ names) = list_any (bytes_eq name) names || has_same_name names
