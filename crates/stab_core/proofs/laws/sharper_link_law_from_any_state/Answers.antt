use Rattle.stab_core.specs.LinkLaw.{SharperLinkLaw}
use Rattle.stab_core.proofs.LinkLaws.{replay_sharper_link_law}
use Rattle.stab_core.proofs.Shifted.{law_from}
use Rattle.stab_core.proofs.laws.sharper_link_law_from_any_state.Goals as goal

pub returns : goal.returns
returns c = λ p s events lawful. law_from SharperLinkLaw p (λ start events. replay_sharper_link_law p start events lawful) s events
