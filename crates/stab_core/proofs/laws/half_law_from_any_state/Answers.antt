use Rattle.stab_core.specs.LinkLaw.{HalfLaw}
use Rattle.stab_core.proofs.LinkLaws.{replay_half_law}
use Rattle.stab_core.proofs.Shifted.{law_from}
use Rattle.stab_core.proofs.laws.half_law_from_any_state.Goals as goal

pub returns : goal.returns
returns c = λ p. law_from HalfLaw p (replay_half_law p)
