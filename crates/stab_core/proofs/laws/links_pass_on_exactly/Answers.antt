use Rattle.stab_core.proofs.PassedOn.{clean_link}
use Rattle.stab_core.proofs.laws.links_pass_on_exactly.Goals as goal

pub returns : goal.returns
returns c = clean_link
