use Rattle.stab_core.specs.LinkLaw.{LinkLaw}
use Rattle.stab_core.proofs.LinkLaws.{replay_link_law}
use Rattle.stab_core.proofs.Shifted.{law_from}
use Rattle.stab_core.proofs.laws.link_law_from_any_state.Goals as goal

pub returns : goal.returns
returns c = λ p s events lawful. law_from LinkLaw p (λ start events. replay_link_law p start events lawful) s events
