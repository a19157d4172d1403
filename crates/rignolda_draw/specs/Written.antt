-- A text that is written in blocks while it is made: a part of it was written, and the rest is kept.
-- Example: Where the text is `abc` and its first two bytes were written, `c` is kept.
-- Source: this project's own.
use Rattle.std.specs.Prelude.{◌≡◌, ℕ, List, ◌++◌, Option}
use Rattle.std.specs.Io.KnownBytes.{Appends}

-- known bytes grew by a part of this text, and what is kept is the rest of it
pub record Written (old new : Option (List ℕ)) (kept text : List ℕ) : Type 0 where
  pub part : List ℕ
  pub appended : Appends old new part
  pub whole : part ++ kept ≡ text
