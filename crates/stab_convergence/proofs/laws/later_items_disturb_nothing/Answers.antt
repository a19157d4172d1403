use Rattle.std.proofs.Common.{refl}
use Rattle.stab_treecore.specs.Changes.{changes_replay}
use Rattle.stab_treecore.specs.TreeReplay.{tree_replay}
use Rattle.stab_convergence.specs.PathRounds.{acts_among}
use Rattle.stab_convergence.proofs.Ahead.{ahead_of_acts, front}
use Rattle.stab_convergence.proofs.laws.later_items_disturb_nothing.Goals as goal

pub returns : goal.returns
returns c tree s changes node is is_node spare =
    front tree s is node is_node (changes_replay s changes) (tree_replay s (acts_among changes))
    (ahead_of_acts tree s is node is_node changes spare) node (0, refl)
