use Rattle.stab_script.proofs.Meaning.{within_limit}
use Rattle.stab_script.proofs.Plain.{no_some}
use Rattle.stab_script.proofs.number.U16Entry.next.Goals as goal

pub returns-clause-value : goal.returns-clause-value
returns-clause-value c = λ depth some. within_limit 65535 c.in_ok-label.label c.args.reader.now c.next_u16.new.reader c.in_ok-label.ensures.value c.in_ok-label.ensures.small depth some

pub returns-in_err-label-clause-plain : goal.returns-in_err-label-clause-plain
returns-in_err-label-clause-plain c = λ rest p. absurd (no_some c.in_err-label.was (c.next_u16.ensures.plain rest p).0)
