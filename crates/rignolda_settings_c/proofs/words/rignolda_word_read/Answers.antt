use Rattle.std.proofs.Common.{arith}
use Rattle.rignolda_settings_c.proofs.Places.{word_found}
use Rattle.rignolda_settings_c.proofs.words.rignolda_word_read.Goals as goal

-- the hello that was read is shown where it lies
pub returns-in-Some : goal.returns-in-Some
returns-in-Some c =
    rw c.shown.ensures
    (word_found c.args.bytes.now c.args.found.now _ _ (λ i. omega (arith, c.type_inv.bytes i)) c.in-Some.ensures)
