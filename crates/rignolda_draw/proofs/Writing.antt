-- What is written in blocks, and what is kept of a text.
use Rattle.std.proofs.Common.{◌≡◌, ℕ, List, [], ◌++◌, Option, refl, ap, ◌∙◌, append-nil}
use Rattle.std.proofs.KnownBytes.{Appends-nil}
use Rattle.std.specs.Io.KnownBytes.{Appends}
use Rattle.rignolda_draw.specs.Written.{Written}

-- a text that is kept whole
pub kept_whole : (a : Option (List ℕ)) (text : List ℕ) → Written a a text text
kept_whole a text = record { part = []; appended = Appends-nil a; whole = refl }

-- a text that is written whole
pub written_whole : (a b : Option (List ℕ)) (kept text : List ℕ) → Appends a b text → kept ≡ [] → Written a b kept text
written_whole a b kept text appended none =
    record { part = text; appended = appended; whole = ap (λ bytes. text ++ bytes) none ∙ append-nil text }
