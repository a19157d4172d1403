use Rattle.stab_core.proofs.CounterExamples.{any_frame_breaks}
use Rattle.stab_core.proofs.laws.every_frame_breaks_the_half_law.Goals as goal

pub returns-clause-broken : goal.returns-clause-broken
returns-clause-broken c = any_frame_breaks
