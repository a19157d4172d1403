use Rattle.stab_script.proofs.Meaning.{within_limit}
use Rattle.stab_script.proofs.Plain.{no_some}
use Rattle.stab_script.proofs.number.U32Entry.next.Goals as goal

pub returns-clause-value : goal.returns-clause-value
returns-clause-value c = λ depth some. within_limit 4294967295 c.in_ok-item.item c.args.reader.now c.next_u32.new.reader c.in_ok-item.ensures.value c.in_ok-item.ensures.small depth some

pub returns-in_err-item-clause-plain : goal.returns-in_err-item-clause-plain
returns-in_err-item-clause-plain c = λ rest p. absurd (no_some c.in_err-item.was (c.next_u32.ensures.plain rest p).0)
