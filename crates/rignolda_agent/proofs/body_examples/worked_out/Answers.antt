use Rattle.std.proofs.Common.{refl}
use Rattle.rignolda_agent.specs.Checksum.{with_byte}
use Rattle.rignolda_agent.specs.Reading.{body_of, count_at, entries_at, entry_at, key_at, kind_at, marked_at, next_at, said_by, settings_of, value_at}
use Rattle.rignolda_agent.proofs.body_examples.worked_out.Goals as goal

pub returns-clause-spelled : goal.returns-clause-spelled
unfolding body_of said_by kind_at settings_of count_at entries_at next_at entry_at key_at marked_at value_at
returns-clause-spelled c = (refl, refl)

pub returns-clause-faults : goal.returns-clause-faults
unfolding body_of said_by kind_at settings_of count_at entries_at next_at entry_at key_at marked_at value_at
returns-clause-faults c = (refl, refl, refl)

pub returns-clause-order : goal.returns-clause-order
unfolding body_of said_by kind_at settings_of count_at entries_at next_at entry_at key_at marked_at value_at
returns-clause-order c = (refl, refl, refl, refl)

pub returns-clause-sum : goal.returns-clause-sum
unfolding with_byte
returns-clause-sum c = refl
