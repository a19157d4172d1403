use Rattle.std.proofs.Common.{refl}
use Rattle.stab_task.proofs.answer.tree_text.Goals as goal

pub returns-clause-text : goal.returns-clause-text
returns-clause-text c = rw (c.in_ok-schedule_text.ensures, c.tree.ensures.tree, c.in_ok-state.ensures.replay) refl
