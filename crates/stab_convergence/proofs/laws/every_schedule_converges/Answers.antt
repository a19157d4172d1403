use Rattle.stab_convergence.proofs.Played.{rounds_converge}
use Rattle.stab_convergence.proofs.laws.every_schedule_converges.Goals as goal

pub returns : goal.returns
returns c = rounds_converge c.link_law_from_any_state.ensures
