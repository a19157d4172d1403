use Rattle.stab_core.specs.Trace.{traced_initial}
use Rattle.stab_core.proofs.LinkLaws.{traced_replay_state, replay_explained}
use Rattle.stab_core.proofs.laws.every_replay_is_explained.Goals as goal

pub returns : goal.returns
returns c = record { same_states = λ p start events. traced_replay_state p (traced_initial start) events; explained = replay_explained }
