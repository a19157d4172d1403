use Rattle.std.proofs.Common.{arith}
use Rattle.stab_script.proofs.Meaning.{of_what_is_there}
use Rattle.rignolda_since.proofs.logs.ReceivedBeside.next.Goals as goal

pub returns-clause-value : goal.returns-clause-value
returns-clause-value c = of_what_is_there c.in_ok-lists.lists (λ lists means. means 126 (omega arith)) c.in_ok-lists.ensures.value
