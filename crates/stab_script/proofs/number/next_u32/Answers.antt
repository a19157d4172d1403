use Rattle.std.proofs.Common.{◌≡◌, refl, arith}
use Rattle.stab_script.proofs.Plain.{one_answer, no_answer}
use Rattle.stab_script.proofs.number.next_u32.Goals as goal

pub returns-in_err-number-clause-plain : goal.returns-in_err-number-clause-plain
returns-in_err-number-clause-plain c = λ rest p.
    let w = c.next_whole.ensures.plain 4294967295 rest (omega arith) p in
    absurd (no_answer c.in_err-number.was w.2)

pub returns-then-number-le4294967295-clause-plain : goal.returns-then-number-le4294967295-clause-plain
returns-then-number-le4294967295-clause-plain c = λ rest p.
    let w = c.next_whole.ensures.plain 4294967295 rest (omega arith) p in
    (refl, w.3)

pub returns-else-number-le4294967295-clause-plain : goal.returns-else-number-le4294967295-clause-plain
returns-else-number-le4294967295-clause-plain c = λ rest p.
    let w = c.next_whole.ensures.plain 4294967295 rest (omega arith) p in
    let same : c.in_ok-number.number ≡ w.0 = one_answer c.in_ok-number.was w.2 in
    absurd (omega (arith, same, w.1))
