-- A job with which nothing is wrong is read: the reader of its kind, which is seen by the bytes,
-- accepts it.
-- Source: this project's own.
use Rattle.std.specs.Prelude.{◌≡◌, ℕ, true, Bool, List, None}
use Rattle.stab_json.specs.Values.{value_of}
use Rattle.rignolda_explain.specs.Kinds.{chosen}
use Rattle.rignolda_explain.specs.Refusals.{refusal_of}

-- if nothing is wrong with these bytes, no reader refuses them
abbrev pub IsReadIfClean : Bool → List ℕ → Type 0
IsReadIfClean clean bytes = clean ≡ true → refusal_of (chosen None (value_of bytes)) bytes ≡ None
