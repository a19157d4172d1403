use Rattle.std.proofs.Common.{[], ◌∷◌}
use Rattle.stab_core.proofs.Replays.{reach_more}
use Rattle.stab_core.proofs.laws.reachable_steps.Goals as goal

pub returns : goal.returns
returns c = λ p start s e reached. reach_more p start s (e ∷ []) reached
