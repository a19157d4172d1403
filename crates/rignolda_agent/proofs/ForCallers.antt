-- For the crates above: where an entry that was read lies.
use Rattle.std.proofs.Common.{◌≡◌, ℕ, ◌+◌, List, ◌++◌, length, drop, Ok, refl, sym, ap, ◌∙◌}
use Rattle.std.proofs.lemmas.List.{drop-drop, drop_at}
use Rattle.rignolda_agent.specs.Reading.{entry_at}
use Rattle.rignolda_agent.specs.Seen.{AreBytes}
use Rattle.rignolda_agent.specs.BodySpelling.{Setting, entry_bytes}
use Rattle.rignolda_agent.proofs.NumberBytes.{bytes_after}
use Rattle.rignolda_agent.proofs.Spelled.{entry_spelled}

-- an entry that is read at a place is its spelling, with the rest after it
pub entry_there : (bytes : List ℕ) (at : ℕ) (s : Setting) (rest : List ℕ) → AreBytes bytes
    → entry_at (drop at bytes) ≡ Ok (s, rest) → drop at bytes ≡ entry_bytes s ++ rest
entry_there bytes at s rest are read = (entry_spelled (drop at bytes) (s, rest) (bytes_after at bytes are) read).0.whole

-- what follows a text that is at a place
pub after_text : (bytes : List ℕ) (at : ℕ) (text rest : List ℕ) → drop at bytes ≡ text ++ rest
    → drop (at + length text) bytes ≡ rest
after_text bytes at text rest there =
    sym (drop-drop (length text) at bytes) ∙ ap (drop (length text)) there ∙ drop_at text rest (length text) refl
