-- For the crates above: what a message that was read says of the bytes.
use Rattle.std.proofs.Common.{◌≡◌, ℕ, List, ◌++◌, Ok}
use Rattle.rignolda_wire.specs.declared.said.Expect.{Expect}
use Rattle.rignolda_wire.specs.Reading.{message_at}
use Rattle.rignolda_wire.specs.Said.{IsMessage, Said, spelling}
use Rattle.rignolda_wire.specs.Seen.{AreBytes}
use Rattle.rignolda_wire.proofs.Fronts.{spelled}

-- it may come, and its spelling is in front
pub message_there : (expect : Expect) (bytes : List ℕ) (m : Said) (rest : List ℕ) → AreBytes bytes → message_at expect bytes ≡ Ok (m, rest)
    → IsMessage expect m × (bytes ≡ spelling m ++ rest)
message_there expect bytes m rest are read = spelled expect bytes (m, rest) are read
