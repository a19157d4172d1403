-- Facts about the values of a job for the crates that read them: the bytes, the number of values, and a list read so far.
use Rattle.std.proofs.Common.{◌≡◌, ◌<◌, ℕ, suc, List, [], ◌∷◌, ◌++◌, length, Option, Some, None, option_map, refl, ap, ◌∙◌, arith}
use Rattle.std.proofs.lemmas.Str.{is_utf8-from_IsUtf8}
use Rattle.serde_json.proofs.OnLiterals.{serde_json_on_literals}
use Rattle.serde_json.specs.Data.{Data}
use Rattle.serde_json.specs.View.{items_view}
use Rattle.serde_json.specs.declared.value.Value.{Value}
use Rattle.stab_json.specs.Values.{value_of, count}

-- no bytes mean no value
value_of_no_bytes : value_of [] ≡ None
unfolding serde_json_on_literals
value_of_no_bytes = rw (is_utf8-from_IsUtf8 [] ([], (refl, refl))) refl

-- where bytes mean a value, there are some
pub some_bytes : (bytes : List ℕ) (d : Data) → Some d ≡ value_of bytes → 0 < length bytes
some_bytes [] d is = let nothing_is : Some d ≡ None = is ∙ value_of_no_bytes in cc
some_bytes (b ∷ bytes) d is = omega arith

-- there are as many entries as values
pub count_of_values : (vs : List Value) → count (items_view vs) ≡ length vs
count_of_values [] = refl
count_of_values (v ∷ vs) = ap suc (count_of_values vs)

-- what was read so far, and then the rest, if the rest means something
abbrev pub read_before : {X : Type 0} → List X → Option (List X) → Option (List X)
read_before read rest = option_map (λ xs. read ++ xs) rest
