use Rattle.stab_line.proofs.Passes.{hands_on_everything}
use Rattle.stab_line.proofs.progress_laws.a_path_hands_on_everything_from_any_state.Goals as goal

pub returns : goal.returns
returns c = hands_on_everything
